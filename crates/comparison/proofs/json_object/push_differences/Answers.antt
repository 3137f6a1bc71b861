use Rattle.std.proofs.Common.{[], ◌++◌, ◌∷◌, codes, flat_map, map}
use Rattle.json.specs.Token.{begin_array, end_array, key}
use Rattle.reports.specs.JsonMembers.{number_member}
use Rattle.reports.proofs.Appends.{further, past}
use Rattle.comparison.specs.Json.{difference_members, words_object}
use Rattle.comparison.specs.DifferenceWords.{words_of}
use Rattle.comparison.proofs.json_object.push_differences.Goals as goal

pub returns : goal.returns
unfolding difference_members
returns c =
    let old = c.args.json.now in
    let begin = key (codes "differences") ∷ begin_array ∷ [] in
    let items = flat_map words_object (map words_of c.args.shown.now) in
    let end = end_array ∷ [] in
    let two = further c.push_each.new.json c.begin_list_at.new.self old begin items c.in_ok-begin_list_at.ensures
    c.in_ok-push_each.ensures in
    let three =
    further c.end_list.new.self c.push_each.new.json old (begin ++ items) end two c.in_ok-end_list.ensures in
    past c.number.result c.number.new.self c.end_list.new.self old (begin ++ items ++ end)
    (number_member (codes "more") c.args.more) three c.number.ensures
