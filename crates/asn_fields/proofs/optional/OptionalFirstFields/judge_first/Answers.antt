use Rattle.std.proofs.Common.{[]}
use Rattle.asn_fields.proofs.optional.OptionalFirstFields.judge_first.Goals as goal

pub returns : goal.returns
returns g c = (c.in_ok-rest.ensures.0, c.in_ok-rest.ensures.1 [])
