use Rattle.std.proofs.Common.{length, ◌≡◌}
use Rattle.explain.specs.Places.{place_of}
use Rattle.explain.proofs.document.places.place_of.Given as goal

abbrev pub invariant-loop-rest : goal.invariant-loop-rest
invariant-loop-rest l = place_of l.rest l.left ≡ place_of l.pieces l.number

abbrev pub decreases-loop-rest : goal.decreases-loop-rest
decreases-loop-rest l = length l.rest
