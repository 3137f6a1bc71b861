use Rattle.std.proofs.Common.{rules}
use Rattle.x690.specs.DerTexts.{texts_of}
use Rattle.asn_elements.proofs.Putting.{contents_room, framed_put, framed_stop, header_room}
use Rattle.asn_fields.specs.Dependents.{value_where_there}
use Rattle.asn_fields.proofs.PartTexts.{texts_both}
use Rattle.asn_fields.proofs.dependent.Written.put.Goals as goal

pub put-requires : goal.put-requires
put-requires g c =
    let a = g.A.FieldsText.values c.args.self.now.earlier.now in
    let b = value_where_there g.F.DependentElement.value c.args.self.now.field in
    header_room _ (texts_of a) (texts_of b) (texts_both a b) c.args.sink.now _ c.requires

pub returns-in_err-put : goal.returns-in_err-put
returns-in_err-put g c =
    let a = g.A.FieldsText.values c.args.self.now.earlier.now in
    let b = value_where_there g.F.DependentElement.value c.args.self.now.field in
    framed_stop _ (texts_of a) (texts_of b)
    (texts_both a b) c.args.sink.now c.put.new.sink c.from_residual.result c.in_err-put.field-0.0
    (search rules) c.in_err-put.ensures

pub put_field-requires : goal.put_field-requires
put_field-requires g c =
    let a = g.A.FieldsText.values c.args.self.now.earlier.now in
    let b = value_where_there g.F.DependentElement.value c.args.self.now.field in
    contents_room _ (texts_of a) (texts_of b)
    (texts_both a b) c.args.sink.now c.put.new.sink _ c.requires c.in_ok-put.ensures

pub returns : goal.returns
returns g c =
    let a = g.A.FieldsText.values c.args.self.now.earlier.now in
    let b = value_where_there g.F.DependentElement.value c.args.self.now.field in
    framed_put _ (texts_of a) (texts_of b)
    (texts_both a b) c.args.sink.now c.put.new.sink c.put_field.new.sink c.put_field.result c.in_ok-put.ensures c.put_field.ensures
