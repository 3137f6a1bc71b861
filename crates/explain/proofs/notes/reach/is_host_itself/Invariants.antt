use Rattle.std.proofs.Common.{◌≡◌, length}
use Rattle.explain.specs.Reach.{is_host_itself}
use Rattle.explain.proofs.notes.reach.is_host_itself.Given as goal

abbrev pub invariant-loop-left : goal.invariant-loop-left
invariant-loop-left l = is_host_itself l.left ≡ is_host_itself l.address

abbrev pub decreases-loop-left : goal.decreases-loop-left
decreases-loop-left l = length l.left
