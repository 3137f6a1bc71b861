use Rattle.std.proofs.Common.{subst, sym}
use Rattle.tlv_core.specs.ObjectIdentifier.{IsObjectIdentifier, ObjectIdentifierOctets}
use Rattle.tlv_core.proofs.oid.Oid.arcs.Goals as goal

pub leading_arcs-first-requires : goal.leading_arcs-first-requires
leading_arcs-first-requires c = subst (λ s. IsObjectIdentifier s) (sym c.contents.ensures.value) c.contents.ensures.is

pub returns-clause-all : goal.returns-clause-all
returns-clause-all c = λ arcs h.
    c.leading_arcs-first.ensures.all arcs (subst (λ s. ObjectIdentifierOctets arcs s) (sym c.contents.ensures.value) h)
