use Rattle.std.proofs.Common.{◌≡◌, length}
use Rattle.explain.specs.GeneralNames.{goes_on}
use Rattle.explain.proofs.notes.general_names.goes_on.Given as goal

abbrev pub invariant-loop-left : goal.invariant-loop-left
invariant-loop-left l = goes_on l.left ≡ goes_on l.octets

abbrev pub decreases-loop-left : goal.decreases-loop-left
decreases-loop-left l = length l.left
