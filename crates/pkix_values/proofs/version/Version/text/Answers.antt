use Rattle.std.proofs.Common.{sym}
use Rattle.pkix_values.proofs.VersionTests.{version_text}
use Rattle.pkix_values.proofs.version.Version.text.Goals as goal

pub returns : goal.returns
returns g c = sym (version_text c.args.self.now.number)
