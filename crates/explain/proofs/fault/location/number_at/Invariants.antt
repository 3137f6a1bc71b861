use Rattle.std.proofs.Common.{drop, ◌≡◌}
use Rattle.explain.specs.FaultLocations.{number_from}
use Rattle.explain.proofs.fault.location.number_at.Given as goal

abbrev pub invariant-loop-i : goal.invariant-loop-i
invariant-loop-i l = number_from l.i l.at (drop l.i l.elements) ≡ number_from 0 l.at l.elements
