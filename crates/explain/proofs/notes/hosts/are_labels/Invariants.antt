use Rattle.std.proofs.Common.{◌≡◌, length}
use Rattle.explain.specs.HostNames.{are_labels, label_start}
use Rattle.explain.proofs.notes.hosts.are_labels.Given as goal

abbrev pub invariant-loop-left : goal.invariant-loop-left
invariant-loop-left l = are_labels l.label l.left ≡ are_labels label_start l.name

abbrev pub decreases-loop-left : goal.decreases-loop-left
decreases-loop-left l = length l.left
