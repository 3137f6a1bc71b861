use Rattle.std.proofs.Common.{[], ◌++◌, codes}
use Rattle.reports.specs.JsonLists.{carried_member, form_members, length_members, line_members, value_member}
use Rattle.reports.specs.JsonMembers.{number_member, optional, said_member}
use Rattle.reports.specs.Paths.{with_step}
use Rattle.reports.proofs.Appends.{further, past}
use Rattle.reports.proofs.json_lists.push_line_members.Goals as goal

pub returns : goal.returns
unfolding line_members
returns c =
    let old = c.args.json.now in
    let line = c.args.line.now in
    let at = number_member (codes "at") line.at in
    let header = optional length_members line.length in
    let depth = number_member (codes "depth") line.depth in
    let name = said_member (codes "name") (with_step [] line.step) in
    let type = said_member (codes "type") line.type_name.now in
    let form = form_members line in
    let end = optional (number_member (codes "end")) line.end in
    let two = further c.push_length.new.json c.number.new.self old at header
    c.in_ok-number.ensures c.in_ok-push_length.ensures in
    let three = further c.number-2.new.self c.push_length.new.json old (at ++ header) depth
    two c.in_ok-number-2.ensures in
    let four = further c.push_line_name.new.json c.number-2.new.self old (at ++ header ++ depth) name
    three c.in_ok-push_line_name.ensures in
    let five = further c.said.new.self c.push_line_name.new.json old (at ++ header ++ depth ++ name) type
    four c.in_ok-said.ensures in
    let six = further c.push_form.new.json c.said.new.self old (at ++ header ++ depth ++ name ++ type) form
    five c.in_ok-push_form.ensures in
    let seven = further c.optional_number.new.self c.push_form.new.json old
    (at ++ header ++ depth ++ name ++ type ++ form) end six c.in_ok-optional_number.ensures in
    let value = value_member line.value in
    let eight = further c.push_value.new.json c.optional_number.new.self old
    (at ++ header ++ depth ++ name ++ type ++ form ++ end) value seven c.in_ok-push_value.ensures in
    past c.push_carried.result c.push_carried.new.json c.push_value.new.json old
    (at ++ header ++ depth ++ name ++ type ++ form ++ end ++ value) (optional carried_member line.carries) eight
    c.push_carried.ensures
