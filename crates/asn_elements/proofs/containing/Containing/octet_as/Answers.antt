use Rattle.std.proofs.Common.{◌≡◌, ◌+◌, ◌∙◌, ap, length, slice_get, subst, sym, false, Some}
use Rattle.tlv_core.specs.Header.{der_header}
use Rattle.x690.specs.DerTexts.{der}
use Rattle.x690_laws.proofs.LengthsOfTexts.{der_leaf}
use Rattle.asn_elements.proofs.HeaderOctets.{get_framed, get_header}
use Rattle.asn_elements.proofs.containing.Containing.octet_as.Goals as goal

pub returns-in-InHeader : goal.returns-in-InHeader
returns-in-InHeader g c =
    let v = g.T.DerText.value c.args.self.now.inner in
    let t = c.args.tag in
    sym (ap (λ z. slice_get z c.args.i) (der_leaf t (der v))
    ∙ get_header (der_header t false (length (der v))) (der v) c.args.i c.in-InHeader.octet
    (subst
    (λ n. slice_get (der_header t false n) c.args.i ≡ Some c.in-InHeader.octet) c.size.ensures c.in-InHeader.ensures))

pub returns-in-InContents : goal.returns-in-InContents
returns-in-InContents g c =
    let v = g.T.DerText.value c.args.self.now.inner in
    let t = c.args.tag in
    c.octet.ensures
    ∙ sym (ap (λ z. slice_get z c.args.i) (der_leaf t (der v))
    ∙ get_framed (der_header t false (length (der v))) (der v) c.args.i c.in-InContents.at
    (subst (λ n. length (der_header t false n) + c.in-InContents.at ≡ c.args.i) c.size.ensures c.in-InContents.ensures))
