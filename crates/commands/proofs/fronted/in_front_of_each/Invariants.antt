use Rattle.std.proofs.Common.{◌≡◌, ◌++◌, length, true}
use Rattle.commands.specs.Fronted.{fronted}
use Rattle.commands.proofs.fronted.in_front_of_each.Given as goal

abbrev pub invariant-loop-left : goal.invariant-loop-left
invariant-loop-left l = l.text.items ++ fronted l.front l.begins l.left ≡ fronted l.front true l.lines

abbrev pub decreases-loop-left : goal.decreases-loop-left
decreases-loop-left l = length l.left
