use Rattle.std.proofs.Common.{◌≡◌, ◌++◌, length, string_bytes}
use Rattle.reports.specs.Wraps.{wrapped}
use Rattle.reports.proofs.text_wrap.push_wrapped.Given as goal

abbrev pub invariant-loop-left : goal.invariant-loop-left
invariant-loop-left l = string_bytes l.text ++ wrapped l.room l.left ≡ string_bytes l.fn.text ++ wrapped 92 l.words

abbrev pub decreases-loop-left : goal.decreases-loop-left
decreases-loop-left l = length l.left
