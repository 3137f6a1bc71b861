use Rattle.std.proofs.Common.{codes}
use Rattle.reports.specs.JsonMembers.{number_member}
use Rattle.reports.proofs.Appends.{past}
use Rattle.reports.proofs.json_lists.push_bits.Goals as goal

pub returns : goal.returns
returns c =
    past c.number-2.result c.number-2.new.self c.number.new.self c.args.json.now
    (number_member (codes "octets") c.args.octets) (number_member (codes "unused_bits") c.args.unused)
    c.in_ok-number.ensures c.number-2.ensures
