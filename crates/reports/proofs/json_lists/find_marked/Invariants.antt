use Rattle.std.proofs.Common.{◌≡◌, ◌++◌, length}
use Rattle.reports.specs.JsonLists.{marked_in}
use Rattle.reports.proofs.json_lists.find_marked.Given as goal

abbrev pub invariant-loop-rest : goal.invariant-loop-rest
invariant-loop-rest l = l.marked.items ++ marked_in l.rest ≡ marked_in l.lines

abbrev pub decreases-loop-rest : goal.decreases-loop-rest
decreases-loop-rest l = length l.rest
