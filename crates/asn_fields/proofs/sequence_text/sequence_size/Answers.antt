use Rattle.std.proofs.Common.{arith, ap, length, true}
use Rattle.std.proofs.lemmas.List.{length-append}
use Rattle.tlv_core.specs.Header.{der_header}
use Rattle.x690.specs.DerTexts.{texts_of}
use Rattle.x690_laws.proofs.LengthsOfTexts.{der_row}
use Rattle.asn_fields.proofs.sequence_text.sequence_size.Goals as goal

pub returns : goal.returns
returns g c =
    let vs = g.F.FieldsText.values c.args.fields.now in
    let t = c.args.tag in
    let e = c.element_size.ensures true in
    let n = c.size.ensures in
    let m = ap (λ k. length (der_header t true k)) n in
    omega (arith, ap length (der_row t vs), length-append (der_header t true (length (texts_of vs))) (texts_of vs))
