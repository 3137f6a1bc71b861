use Rattle.std.proofs.Common.{codes}
use Rattle.reports.specs.Asks.{each_in}
use Rattle.reports.specs.JsonKeys.{identifier_item, number_item, scheme_members}
use Rattle.reports.specs.JsonMembers.{list_member}
use Rattle.reports.proofs.Appends.{past}
use Rattle.reports.proofs.json_keys.push_scheme_lists.Goals as goal

pub returns : goal.returns
unfolding scheme_members
returns c =
    let algorithms = list_member (codes "algorithms") (each_in identifier_item c.args.depth c.args.lines.now) in
    let numbers = list_member (codes "numbers") (each_in number_item c.args.depth c.args.lines.now) in
    past c.push_numbers.result c.push_numbers.new.json c.push_identifiers.new.json c.args.json.now algorithms numbers
    c.in_ok-push_identifiers.ensures c.push_numbers.ensures
