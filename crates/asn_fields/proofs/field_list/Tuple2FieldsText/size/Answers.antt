use Rattle.std.proofs.Common.{arith}
use Rattle.asn_fields.proofs.PartTexts.{length_both}
use Rattle.asn_fields.proofs.field_list.Tuple2FieldsText.size.Goals as goal

pub size-requires : goal.size-requires
size-requires g c =
    let a = g.A.FieldsText.values c.args.self.now.0 in
    let b = g.B.FieldsText.values c.args.self.now.1 in
    omega (arith, c.requires, length_both a b)

pub size-requires-2 : goal.size-requires-2
size-requires-2 g c =
    let a = g.A.FieldsText.values c.args.self.now.0 in
    let b = g.B.FieldsText.values c.args.self.now.1 in
    omega (arith, c.requires, length_both a b)

pub overflow_add-result : goal.overflow_add-result
overflow_add-result g c =
    let a = g.A.FieldsText.values c.args.self.now.0 in
    let b = g.B.FieldsText.values c.args.self.now.1 in
    omega (arith, c.requires, length_both a b, c.size.ensures, c.size-2.ensures)

pub returns : goal.returns
returns g c =
    let a = g.A.FieldsText.values c.args.self.now.0 in
    let b = g.B.FieldsText.values c.args.self.now.1 in
    omega (arith, length_both a b, c.size.ensures, c.size-2.ensures)
