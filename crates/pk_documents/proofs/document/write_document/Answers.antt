use Rattle.std.proofs.Common.{subst, sym}
use Rattle.x690.specs.DerTexts.{der}
use Rattle.asn_documents.specs.WrittenValues.{WritesText}
use Rattle.pk_documents.proofs.DocumentValues.{valued}
use Rattle.pk_documents.proofs.document.write_document.Goals as goal

pub returns-in-Request : goal.returns-in-Request
returns-in-Request g c =
    subst (λ document.
    WritesText (der (valued document)) (g.W.Target.contents c.args.dst.now)
    (g.W.Target.contents c.write_value-in-Request.new.dst)
    (g.W.Target.has_failed c.write_value-in-Request.new.dst) c.write_value-in-Request.result)
    (sym c.in-Request.is) c.write_value-in-Request.ensures

pub returns-in-Key : goal.returns-in-Key
returns-in-Key g c =
    subst (λ document.
    WritesText (der (valued document)) (g.W.Target.contents c.args.dst.now) (g.W.Target.contents c.write_value.new.dst)
    (g.W.Target.has_failed c.write_value.new.dst) c.write_value.result)
    (sym c.in-Key.is) c.write_value.ensures

pub returns-in-Package : goal.returns-in-Package
returns-in-Package g c =
    subst (λ document.
    WritesText (der (valued document)) (g.W.Target.contents c.args.dst.now)
    (g.W.Target.contents c.write_value-in-Package.new.dst)
    (g.W.Target.has_failed c.write_value-in-Package.new.dst) c.write_value-in-Package.result)
    (sym c.in-Package.is) c.write_value-in-Package.ensures
