use Rattle.std.proofs.Common.{◌++◌, codes}
use Rattle.reports.specs.JsonMembers.{number_member, text_member}
use Rattle.reports.proofs.Appends.{further, past}
use Rattle.comparison.specs.Json.{head_members}
use Rattle.comparison.proofs.json_object.push_head.Goals as goal

pub returns : goal.returns
unfolding head_members
returns c =
    let old = c.args.json.now in
    let form = number_member (codes "form") 1 in
    let version = text_member (codes "version") c.args.heading.version.now in
    let kind = text_member (codes "kind") c.args.heading.kind.now in
    let status = number_member (codes "status") c.args.status in
    let verdict = text_member (codes "verdict") c.args.verdict.now in
    let two = further c.text.new.self c.number.new.self old form version c.in_ok-number.ensures c.in_ok-text.ensures in
    let three = further c.text-2.new.self c.text.new.self old (form ++ version) kind two c.in_ok-text-2.ensures in
    let four = further c.number-2.new.self c.text-2.new.self old (form ++ version ++ kind) status three
    c.in_ok-number-2.ensures in
    past c.text-3.result c.text-3.new.self c.number-2.new.self old (form ++ version ++ kind ++ status) verdict four
    c.text-3.ensures
