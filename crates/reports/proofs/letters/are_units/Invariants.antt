use Rattle.std.proofs.Common.{◌≡◌, length}
use Rattle.reports.specs.Letters.{are_units}
use Rattle.reports.proofs.letters.are_units.Given as goal

abbrev pub invariant-loop-left : goal.invariant-loop-left
invariant-loop-left l = are_units l.left ≡ are_units l.octets

abbrev pub decreases-loop-left : goal.decreases-loop-left
decreases-loop-left l = length l.left
