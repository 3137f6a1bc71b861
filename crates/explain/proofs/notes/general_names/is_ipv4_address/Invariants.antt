use Rattle.std.proofs.Common.{◌≡◌, length}
use Rattle.explain.specs.GeneralNames.{are_numbers, numbers_start}
use Rattle.explain.proofs.notes.general_names.is_ipv4_address.Given as goal

abbrev pub invariant-loop-left : goal.invariant-loop-left
invariant-loop-left l = are_numbers l.numbers l.left ≡ are_numbers numbers_start l.name

abbrev pub decreases-loop-left : goal.decreases-loop-left
decreases-loop-left l = length l.left
