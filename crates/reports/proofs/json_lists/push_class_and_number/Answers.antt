use Rattle.std.proofs.Common.{[], ◌∷◌, ◌++◌, codes}
use Rattle.json.specs.Token.{begin_object, end_object, key}
use Rattle.reports.specs.JsonLists.{tag_members}
use Rattle.reports.specs.JsonMembers.{number_member, text_member}
use Rattle.reports.proofs.Appends.{further, past}
use Rattle.reports.proofs.json_lists.push_class_and_number.Goals as goal

pub returns : goal.returns
unfolding tag_members
returns c =
    let old = c.args.json.now in
    let begun = c.begin_object_at.new.self in
    let with_class = c.text.new.self in
    let with_number = c.number.new.self in
    let first = key (codes "tag") ∷ begin_object ∷ [] in
    let second = text_member (codes "class") c.args.class.now in
    let third = number_member (codes "number") c.args.number in
    past c.end_object.result c.end_object.new.self with_number old ((first ++ second) ++ third) (end_object ∷ [])
    (further with_number with_class old (first ++ second) third
    (further with_class begun old first second c.in_ok-begin_object_at.ensures c.in_ok-text.ensures)
    c.in_ok-number.ensures)
    c.end_object.ensures
