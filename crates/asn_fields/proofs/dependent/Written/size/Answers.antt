use Rattle.std.proofs.Common.{arith}
use Rattle.asn_fields.specs.Dependents.{value_where_there}
use Rattle.asn_fields.proofs.PartTexts.{length_both}
use Rattle.asn_fields.proofs.dependent.Written.size.Goals as goal

pub size-requires : goal.size-requires
size-requires g c =
    let a = g.A.FieldsText.values c.args.self.now.earlier.now in
    let b = value_where_there g.F.DependentElement.value c.args.self.now.field in
    omega (arith, c.requires, length_both a b)

pub overflow_add-result : goal.overflow_add-result
overflow_add-result g c =
    let a = g.A.FieldsText.values c.args.self.now.earlier.now in
    let b = value_where_there g.F.DependentElement.value c.args.self.now.field in
    omega (arith, c.requires, length_both a b, c.size.ensures, c.field_size.ensures)

pub returns : goal.returns
returns g c =
    let a = g.A.FieldsText.values c.args.self.now.earlier.now in
    let b = value_where_there g.F.DependentElement.value c.args.self.now.field in
    omega (arith, length_both a b, c.size.ensures, c.field_size.ensures)
