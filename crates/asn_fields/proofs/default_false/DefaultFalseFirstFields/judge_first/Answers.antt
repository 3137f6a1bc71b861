use Rattle.std.proofs.Common.{[]}
use Rattle.asn_fields.proofs.default_false.DefaultFalseFirstFields.judge_first.Goals as goal

pub returns : goal.returns
returns c =
    let x = c.in_ok-rest.ensures c.args._limits.depth c.args._left in
    (x.0, x.1 [])
