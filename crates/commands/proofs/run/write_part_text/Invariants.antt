use Rattle.commands.proofs.run.write_part_text.Given as goal

abbrev pub ghosts-write_part_in_blocks : goal.ghosts-write_part_in_blocks
ghosts-write_part_in_blocks g a = record { name = a.dst.ghost_name; before = g.W.Target.contents a.dst.now }
