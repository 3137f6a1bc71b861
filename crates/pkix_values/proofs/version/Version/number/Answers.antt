use Rattle.pkix_values.proofs.VersionTests.{bounds}
use Rattle.pkix_values.proofs.version.Version.number.Goals as goal

pub returns-clause-least : goal.returns-clause-least
returns-clause-least g c = (bounds g.row.LEAST g.row.MOST c.args.self.now.number c.args.self.now.allowed).0

pub returns-clause-most : goal.returns-clause-most
returns-clause-most g c = (bounds g.row.LEAST g.row.MOST c.args.self.now.number c.args.self.now.allowed).1

pub returns-clause-octet : goal.returns-clause-octet
returns-clause-octet g c = (bounds g.row.LEAST g.row.MOST c.args.self.now.number c.args.self.now.allowed).2
