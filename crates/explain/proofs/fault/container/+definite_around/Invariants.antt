use Rattle.explain.proofs.fault.container.+definite_around.Given as goal

abbrev pub decreases-definite_around : goal.decreases-definite_around
decreases-definite_around l = l.number
