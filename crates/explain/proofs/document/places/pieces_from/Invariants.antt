use Rattle.std.proofs.Common.{length, ◌≤◌}
use Rattle.explain.specs.Places.{Skips}
use Rattle.explain.proofs.document.places.pieces_from.Given as goal

abbrev pub invariant-loop-rest : goal.invariant-loop-rest
invariant-loop-rest l = record {
  within : l.before ≤ l.number;
  skips : Skips l.pieces l.before l.rest;
}

abbrev pub decreases-loop-rest : goal.decreases-loop-rest
decreases-loop-rest l = length l.rest
