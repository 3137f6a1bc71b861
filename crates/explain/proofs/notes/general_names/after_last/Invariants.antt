use Rattle.std.proofs.Common.{◌≡◌, length}
use Rattle.explain.specs.GeneralNames.{after_last}
use Rattle.explain.proofs.notes.general_names.after_last.Given as goal

abbrev pub invariant-loop-left : goal.invariant-loop-left
invariant-loop-left l = after_last l.mark l.found l.left ≡ after_last l.mark l.name l.name

abbrev pub decreases-loop-left : goal.decreases-loop-left
decreases-loop-left l = length l.left
