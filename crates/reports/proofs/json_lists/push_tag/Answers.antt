use Rattle.std.proofs.Common.{ap₂}
use Rattle.reports.specs.JsonLists.{tag_member, tag_members}
use Rattle.reports.proofs.Appends.{in_words}
use Rattle.reports.proofs.json_lists.push_tag.Goals as goal

pub returns : goal.returns
returns c =
    in_words c.push_class_and_number.result c.push_class_and_number.new.json c.args.json.now
    (tag_members c.class_of_tag.result.now c.number_of_tag.result) (tag_member c.args.tag)
    c.push_class_and_number.ensures (ap₂ tag_members c.class_of_tag.ensures c.number_of_tag.ensures)
