use Rattle.std.proofs.Common.{rules}
use Rattle.pkix_values.proofs.SameOctets.{octets_test}
use Rattle.pkix_values.proofs.identifiers.has_contents.Goals as goal

pub returns : goal.returns
returns c = octets_test c.eq.result c.args.id.now c.args.contents.now (search rules)
