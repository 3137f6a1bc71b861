use Rattle.asn_fields.proofs.default_false.DefaultFalseIndependentFields.judge.Goals as goal

pub returns : goal.returns
returns c = c.in_ok-rest.ensures c.args._limits.depth c.args._left
