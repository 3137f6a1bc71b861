use Rattle.std.proofs.Common.{◌≡◌, ◌+◌, ◌∙◌, ap, length, slice_get, subst, sym, true, Some}
use Rattle.tlv_core.specs.Header.{der_header}
use Rattle.x690.specs.DerTexts.{texts_of}
use Rattle.x690_laws.proofs.LengthsOfTexts.{der_row}
use Rattle.asn_elements.proofs.HeaderOctets.{get_framed, get_header}
use Rattle.asn_fields.proofs.sequence_text.sequence_octet.Goals as goal

pub returns-in-InHeader : goal.returns-in-InHeader
returns-in-InHeader g c =
    let vs = g.F.FieldsText.values c.args.fields.now in
    let t = c.args.tag in
    let h = der_header t true (length (texts_of vs)) in
    sym (ap (λ z. slice_get z c.args.i) (der_row t vs)
    ∙ get_header h (texts_of vs) c.args.i c.in-InHeader.octet
    (subst
    (λ n. slice_get (der_header t true n) c.args.i ≡ Some c.in-InHeader.octet) c.size.ensures c.in-InHeader.ensures))

pub returns-in-InContents : goal.returns-in-InContents
returns-in-InContents g c =
    let vs = g.F.FieldsText.values c.args.fields.now in
    let t = c.args.tag in
    let h = der_header t true (length (texts_of vs)) in
    c.octet.ensures
    ∙ sym (ap (λ z. slice_get z c.args.i) (der_row t vs)
    ∙ get_framed h (texts_of vs) c.args.i c.in-InContents.at
    (subst
    (λ n. length (der_header t true n) + c.in-InContents.at ≡ c.args.i) c.size.ensures c.in-InContents.ensures))
