use Rattle.std.proofs.Common.{[], ◌++◌, ◌∷◌, codes}
use Rattle.json.specs.Token.{begin_array, end_array, key}
use Rattle.reports.specs.Asks.{each_start_in}
use Rattle.reports.specs.JsonAsks.{attribute_item}
use Rattle.reports.proofs.Appends.{further, past}
use Rattle.reports.proofs.json_asks.push_attribute_list.Goals as goal

pub returns : goal.returns
returns c =
    let old = c.args.json.now in
    let front = key (codes "attributes") ∷ begin_array ∷ [] in
    let items = each_start_in attribute_item c.args.depth c.args.lines.now in
    let two = further c.push_attribute_items.new.json c.begin_list_at.new.self old front items
    c.in_ok-begin_list_at.ensures c.in_ok-push_attribute_items.ensures in
    past c.end_list.result c.end_list.new.self c.push_attribute_items.new.json old (front ++ items)
    (end_array ∷ []) two c.end_list.ensures
