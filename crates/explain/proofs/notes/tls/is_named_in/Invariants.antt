use Rattle.std.proofs.Common.{None, ◌≡◌, length}
use Rattle.explain.specs.NotedTls.{is_named_in}
use Rattle.explain.proofs.notes.tls.is_named_in.Given as goal

abbrev pub invariant-loop-left : goal.invariant-loop-left
invariant-loop-left l = is_named_in l.name l.extension l.left ≡ is_named_in l.name None l.lines

abbrev pub decreases-loop-left : goal.decreases-loop-left
decreases-loop-left l = length l.left
