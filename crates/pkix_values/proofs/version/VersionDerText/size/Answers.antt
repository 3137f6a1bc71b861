use Rattle.std.proofs.Common.{ap, length, sym}
use Rattle.pkix_values.proofs.VersionTests.{version_text}
use Rattle.pkix_values.proofs.version.VersionDerText.size.Goals as goal

pub returns : goal.returns
returns g c = sym (ap length (version_text c.args.self.now.number))
