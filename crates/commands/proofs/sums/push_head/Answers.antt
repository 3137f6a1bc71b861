use Rattle.std.proofs.Common.{codes}
use Rattle.explain.specs.Written.{version}
use Rattle.reports.specs.JsonMembers.{number_member, text_member}
use Rattle.reports.proofs.Appends.{past}
use Rattle.commands.specs.Sums.{head_members}
use Rattle.commands.proofs.sums.push_head.Goals as goal

pub returns : goal.returns
unfolding head_members
returns c =
    past c.text.result c.text.new.self c.number.new.self c.args.json.now (number_member (codes "form") 1)
    (text_member (codes "version") version) c.in_ok-number.ensures c.text.ensures
