use Rattle.explain.proofs.fault.location.+push_path.Given as goal

abbrev pub decreases-push_path : goal.decreases-push_path
decreases-push_path l = l.number
