use Rattle.std.proofs.Common.{◌++◌, ◌∙◌, ap}
use Rattle.std.specs.List.{slice_get}
use Rattle.reports.specs.JsonLists.{field_of_line, note_members, remark_members, remark_words}
use Rattle.reports.specs.JsonMembers.{optional}
use Rattle.reports.proofs.Appends.{further, past}
use Rattle.reports.proofs.json_lists.push_note_members.Goals as goal

pub returns : goal.returns
unfolding note_members
returns c =
    let old = c.args.json.now in
    let with_field = c.push_field_of_line.new.json in
    let with_word = c.push_remark_words.new.json in
    let report = c.args.report.now in
    let note = c.args.note.now in
    let first = optional (field_of_line report) (slice_get report.lines.items note.line) in
    let second = remark_words note.remark in
    past c.push_remark.result c.push_remark.new.json with_word old (first ++ second) (remark_members note.remark)
    (further with_word with_field old first second
    (c.in_ok-push_field_of_line.ensures ∙ ap (λ o. old ++ optional (field_of_line report) o)
    (c.line_of.ensures ∙ ap (λ lines. slice_get lines note.line) c.deref.ensures.value))
    c.in_ok-push_remark_words.ensures)
    c.push_remark.ensures
