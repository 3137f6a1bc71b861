use Rattle.commands.proofs.run.normalise.Given as goal

abbrev pub ghosts-normalise_in_blocks : goal.ghosts-normalise_in_blocks
ghosts-normalise_in_blocks g a = record { name = a.dst.ghost_name; before = g.W.Target.contents a.dst.now }
