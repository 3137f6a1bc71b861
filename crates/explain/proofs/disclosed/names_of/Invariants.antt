use Rattle.std.proofs.Common.{length, ◌++◌, ◌≡◌}
use Rattle.explain.specs.Disclosures.{names_in}
use Rattle.explain.proofs.disclosed.names_of.Given as goal

abbrev pub invariant-loop-left : goal.invariant-loop-left
invariant-loop-left l = l.names.items ++ names_in l.left ≡ names_in l.path

abbrev pub decreases-loop-left : goal.decreases-loop-left
decreases-loop-left l = length l.left
