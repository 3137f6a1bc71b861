use Rattle.std.proofs.Common.{rules}
use Rattle.x690.specs.DerTexts.{texts_of}
use Rattle.asn_elements.proofs.Putting.{contents_room, framed_put, framed_stop, header_room}
use Rattle.asn_fields.proofs.PartTexts.{texts_both}
use Rattle.asn_fields.proofs.field_list.Tuple2FieldsText.put.Goals as goal

pub put-requires : goal.put-requires
put-requires g c =
    let a = g.A.FieldsText.values c.args.self.now.0 in
    let b = g.B.FieldsText.values c.args.self.now.1 in
    header_room _ (texts_of a) (texts_of b) (texts_both a b) c.args.sink.now _ c.requires

pub returns-in_err-put : goal.returns-in_err-put
returns-in_err-put g c =
    let a = g.A.FieldsText.values c.args.self.now.0 in
    let b = g.B.FieldsText.values c.args.self.now.1 in
    framed_stop _ (texts_of a) (texts_of b)
    (texts_both a b) c.args.sink.now c.put.new.sink c.from_residual.result c.in_err-put.field-0.0
    (search rules) c.in_err-put.ensures

pub put-requires-2 : goal.put-requires-2
put-requires-2 g c =
    let a = g.A.FieldsText.values c.args.self.now.0 in
    let b = g.B.FieldsText.values c.args.self.now.1 in
    contents_room _ (texts_of a) (texts_of b)
    (texts_both a b) c.args.sink.now c.put.new.sink _ c.requires c.in_ok-put.ensures

pub returns : goal.returns
returns g c =
    let a = g.A.FieldsText.values c.args.self.now.0 in
    let b = g.B.FieldsText.values c.args.self.now.1 in
    framed_put _ (texts_of a) (texts_of b)
    (texts_both a b) c.args.sink.now c.put.new.sink c.put-2.new.sink c.put-2.result c.in_ok-put.ensures c.put-2.ensures
