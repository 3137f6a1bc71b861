use Rattle.std.proofs.Common.{◌≡◌, length}
use Rattle.std.specs.List.{list_any}
use Rattle.reports.specs.Letters.{is_hidden, unit_codes}
use Rattle.reports.proofs.letters.has_hidden_unit.Given as goal

abbrev pub invariant-loop-left : goal.invariant-loop-left
invariant-loop-left l = list_any is_hidden (unit_codes l.left) ≡ list_any is_hidden (unit_codes l.octets)

abbrev pub decreases-loop-left : goal.decreases-loop-left
decreases-loop-left l = length l.left
