use Rattle.explain.proofs.Promised.{promised}
use Rattle.explain.proofs.explained.explain.Goals as goal

pub returns : goal.returns
returns c = promised c.args.profile c.args.limits c.args.kind c.args.octets.now c.in_ok-report.report (record {
  disclosed = c.in_ok-disclosed.disclosed;
  is_disclosed = c.in_ok-disclosed.ensures;
  made_of = c.in_ok-report.ensures;
})
