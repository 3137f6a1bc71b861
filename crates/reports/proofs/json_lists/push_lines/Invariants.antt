use Rattle.std.proofs.Common.{◌≡◌, ◌++◌, flat_map, length}
use Rattle.reports.specs.JsonLists.{line_object}
use Rattle.reports.proofs.json_lists.push_lines.Given as goal

abbrev pub invariant-loop-rest : goal.invariant-loop-rest
invariant-loop-rest l = l.json ++ flat_map line_object l.rest ≡ l.fn.json ++ flat_map line_object l.lines

abbrev pub decreases-loop-rest : goal.decreases-loop-rest
decreases-loop-rest l = length l.rest
