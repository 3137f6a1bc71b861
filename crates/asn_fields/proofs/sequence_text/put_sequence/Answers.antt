use Rattle.std.proofs.Common.{rules, ◌++◌, ◌∙◌, ap, sym, true}
use Rattle.tlv_core.specs.Header.{der_header}
use Rattle.x690.specs.DerTexts.{texts_of}
use Rattle.x690_laws.proofs.LengthsOfTexts.{der_row}
use Rattle.asn_elements.proofs.Putting.{contents_room, framed_put, framed_stop, header_room}
use Rattle.asn_fields.proofs.sequence_text.put_sequence.Goals as goal

pub put_header-requires : goal.put_header-requires
put_header-requires g c =
    let vs = g.F.FieldsText.values c.args.fields.now in
    let t = c.args.tag in
    header_room _ (der_header t true c.size.result) (texts_of vs)
    (der_row t vs ∙ ap (λ n. der_header t true n ++ texts_of vs) (sym c.size.ensures))
    c.args.sink.now _ c.requires.room

pub returns-in_err-put_header : goal.returns-in_err-put_header
returns-in_err-put_header g c =
    let vs = g.F.FieldsText.values c.args.fields.now in
    let t = c.args.tag in
    framed_stop _ (der_header t true c.size.result) (texts_of vs)
    (der_row t vs ∙ ap (λ n. der_header t true n ++ texts_of vs) (sym c.size.ensures))
    c.args.sink.now c.put_header.new.sink c.from_residual.result c.in_err-put_header.field-0.0
    (search rules) c.in_err-put_header.ensures

pub put-requires : goal.put-requires
put-requires g c =
    let vs = g.F.FieldsText.values c.args.fields.now in
    let t = c.args.tag in
    contents_room _ (der_header t true c.size.result) (texts_of vs)
    (der_row t vs ∙ ap (λ n. der_header t true n ++ texts_of vs) (sym c.size.ensures))
    c.args.sink.now c.put_header.new.sink _ c.requires.room c.in_ok-put_header.ensures

pub returns : goal.returns
returns g c =
    let vs = g.F.FieldsText.values c.args.fields.now in
    let t = c.args.tag in
    framed_put _ (der_header t true c.size.result) (texts_of vs)
    (der_row t vs ∙ ap (λ n. der_header t true n ++ texts_of vs) (sym c.size.ensures))
    c.args.sink.now c.put_header.new.sink c.put.new.sink c.put.result c.in_ok-put_header.ensures c.put.ensures
