use Rattle.std.proofs.Common.{◌≡◌, ◌+◌, length}
use Rattle.reports.specs.Wraps.{word_length}
use Rattle.reports.proofs.text_wrap.word_length.Given as goal

abbrev pub invariant-loop-left : goal.invariant-loop-left
invariant-loop-left l =
    (l.length + word_length l.left ≡ word_length l.octets) × (l.length + length l.left ≡ length l.octets)

abbrev pub decreases-loop-left : goal.decreases-loop-left
decreases-loop-left l = length l.left
