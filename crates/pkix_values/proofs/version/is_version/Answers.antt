use Rattle.pkix_values.proofs.VersionTests.{outside, within}
use Rattle.pkix_values.proofs.version.is_version.Goals as goal

pub returns-then-number : goal.returns-then-number
returns-then-number g c = outside g.row.LEAST g.row.MOST c.args.number c.then-number.either

pub returns : goal.returns
returns g c = within g.row.LEAST g.row.MOST c.args.number c.if-number.false c.if-number-2.false
