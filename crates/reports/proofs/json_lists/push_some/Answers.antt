use Rattle.std.proofs.Common.{◌++◌, ◌∙◌, ap, codes, flat_map, length}
use Rattle.reports.specs.JsonLists.{marked_object, some_members}
use Rattle.reports.specs.Picks.{first_ones}
use Rattle.reports.specs.JsonMembers.{list_member, number_member}
use Rattle.reports.proofs.Appends.{in_words, past}
use Rattle.reports.proofs.json_lists.push_some.Goals as goal

pub returns : goal.returns
unfolding some_members
returns c =
    let old = c.args.json.now in
    let listed = c.push_list.new.json in
    let new = c.number.new.self in
    let report = c.args.report.now in
    let marked = c.args.marked.now in
    let count = number_member (codes "not_der_places") in
    past c.number.result new listed old
    (list_member (codes "not_der") (flat_map (marked_object report) (first_ones c.args.places marked)))
    (count (length marked))
    (c.in_ok-push_list.ensures
    ∙ ap (λ them. old ++ list_member (codes "not_der") (flat_map (marked_object report) them)) c.up_to.ensures)
    (in_words c.number.result new listed (count c.count_of.result) (count (length marked)) c.number.ensures
    (ap count c.count_of.ensures))
