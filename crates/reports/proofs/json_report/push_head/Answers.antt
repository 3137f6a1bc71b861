use Rattle.std.proofs.Common.{Bor, List, ℕ, ◌++◌, codes}
use Rattle.std.specs.Option.{option_map}
use Rattle.reports.specs.Json.{answer_members, head_members}
use Rattle.reports.specs.JsonMembers.{number_member, optional, text_member}
use Rattle.reports.proofs.Appends.{further, past}
use Rattle.reports.proofs.json_report.push_head.Goals as goal

pub returns : goal.returns
unfolding head_members
returns c =
    let old = c.args.json.now in
    let report = c.args.report.now in
    let form = number_member (codes "form") 1 in
    let version = text_member (codes "version") c.args.version.now in
    let file = optional (text_member (codes "file")) (option_map (λ (r : Bor (List ℕ)). r.now) c.args.file) in
    let kind = text_member (codes "kind") report.kind.word.now in
    let octets = number_member (codes "octets") report.octets in
    let two = further c.text.new.self c.number.new.self old form version c.in_ok-number.ensures c.in_ok-text.ensures in
    let three = further c.push_file.new.json c.text.new.self old (form ++ version) file
    two c.in_ok-push_file.ensures in
    let four = further c.text-2.new.self c.push_file.new.json old (form ++ version ++ file) kind
    three c.in_ok-text-2.ensures in
    let five = further c.number-2.new.self c.text-2.new.self old (form ++ version ++ file ++ kind) octets
    four c.in_ok-number-2.ensures in
    past c.push_answer.result c.push_answer.new.json c.number-2.new.self old (form ++ version ++ file ++ kind ++ octets)
    (answer_members report.answer) five c.push_answer.ensures
