use Rattle.std.proofs.Common.{◌∙◌, rules, sym}
use Rattle.pkix_values.specs.Versions.{versions}
use Rattle.pkix_values.proofs.VersionTests.{version_begins}
use Rattle.pkix_values.proofs.version.VersionElement.judge.Goals as goal

pub returns : goal.returns
returns g c =
    version_begins c.args._limits.depth c.args._left (versions g.row.LEAST g.row.MOST) c.in_ok-number.number
    c.args.octets.now c.in_ok-number.rest.now c.in_ok-number.ensures
    (sym c.if-not-is_version.false ∙ c.is_version.ensures)
