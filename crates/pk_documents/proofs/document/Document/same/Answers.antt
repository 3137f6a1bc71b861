use Rattle.std.proofs.Common.{refl}
use Rattle.pk_documents.specs.Documents.{kind_of}
use Rattle.pk_documents.proofs.DocumentValues.{same_as, valued}
use Rattle.pk_documents.proofs.document.Document.same.Goals as goal

pub returns-in-Request-Request : goal.returns-in-Request-Request
returns-in-Request-Request c =
    same_as kind_of valued c.args.self.now c.args.other.now _ _ c.same-in-Request-Request.result
    c.in-Request-Request.is-0 c.in-Request-Request.is-1 refl c.same-in-Request-Request.ensures

pub returns-in-Key-Key : goal.returns-in-Key-Key
returns-in-Key-Key c =
    same_as kind_of valued c.args.self.now c.args.other.now _ _ c.same.result c.in-Key-Key.is-0 c.in-Key-Key.is-1 refl
    c.same.ensures

pub returns-in-Package-Package : goal.returns-in-Package-Package
returns-in-Package-Package c =
    same_as kind_of valued c.args.self.now c.args.other.now _ _ c.same-in-Package-Package.result
    c.in-Package-Package.is-0 c.in-Package-Package.is-1 refl c.same-in-Package-Package.ensures
