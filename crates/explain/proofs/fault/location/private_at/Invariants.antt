use Rattle.std.proofs.Common.{drop, ◌≡◌}
use Rattle.explain.specs.FaultLocations.{private_from}
use Rattle.explain.proofs.fault.location.private_at.Given as goal

abbrev pub invariant-loop-i : goal.invariant-loop-i
invariant-loop-i l = private_from l.i (drop l.i l.elements) ≡ private_from l.number (drop l.number l.elements)
