use Rattle.std.proofs.Common.{◌≡◌, ◌++◌, flat_map, length}
use Rattle.reports.specs.JsonLists.{marked_object}
use Rattle.reports.proofs.json_lists.push_all_marked.Given as goal

abbrev pub invariant-loop-rest : goal.invariant-loop-rest
invariant-loop-rest l =
    l.json ++ flat_map (marked_object l.report) l.rest ≡ l.fn.json ++ flat_map (marked_object l.report) l.marked

abbrev pub decreases-loop-rest : goal.decreases-loop-rest
decreases-loop-rest l = length l.rest
