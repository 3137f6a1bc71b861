use Rattle.std.proofs.Common.{◌≡◌, ◌++◌, flat_map, length}
use Rattle.reports.specs.JsonLists.{note_object}
use Rattle.reports.proofs.json_lists.push_notes.Given as goal

abbrev pub invariant-loop-rest : goal.invariant-loop-rest
invariant-loop-rest l =
    l.json ++ flat_map (note_object l.report) l.rest ≡ l.fn.json ++ flat_map (note_object l.report) l.notes

abbrev pub decreases-loop-rest : goal.decreases-loop-rest
decreases-loop-rest l = length l.rest
