use Rattle.std.proofs.Common.{arith, ◌∙◌, ◌-◌, ap, slice_get, sym}
use Rattle.x690.specs.DerTexts.{texts_of}
use Rattle.asn_elements.proofs.HeaderOctets.{get_after, get_before}
use Rattle.asn_fields.specs.Dependents.{value_where_there}
use Rattle.asn_fields.proofs.PartTexts.{length_both, texts_both}
use Rattle.asn_fields.proofs.dependent.Written.octet.Goals as goal

pub size-size-requires : goal.size-size-requires
size-size-requires g c =
    let a = g.A.FieldsText.values c.args.self.now.earlier.now in
    let b = value_where_there g.F.DependentElement.value c.args.self.now.field in
    omega (arith, c.requires, length_both a b)

pub octet-requires : goal.octet-requires
octet-requires g c =
    let a = g.A.FieldsText.values c.args.self.now.earlier.now in
    let b = value_where_there g.F.DependentElement.value c.args.self.now.field in
    omega (arith, c.requires, length_both a b)

pub returns-then-i-size : goal.returns-then-i-size
returns-then-i-size g c =
    let a = g.A.FieldsText.values c.args.self.now.earlier.now in
    let b = value_where_there g.F.DependentElement.value c.args.self.now.field in
    let h = c.if-i-size.true in
    let n = c.size-size.ensures in
    c.octet.ensures
    ∙ sym
    (ap (λ z. slice_get z c.args.i) (texts_both a b) ∙ get_before (texts_of a) (texts_of b) c.args.i (omega arith))

pub returns-else-i-size : goal.returns-else-i-size
returns-else-i-size g c =
    let a = g.A.FieldsText.values c.args.self.now.earlier.now in
    let b = value_where_there g.F.DependentElement.value c.args.self.now.field in
    let h = c.if-i-size.false in
    let n = c.size-size.ensures in
    c.field_octet.ensures
    ∙ ap (λ k. slice_get (texts_of b) (c.args.i - k)) n
    ∙ sym (ap (λ z. slice_get z c.args.i) (texts_both a b) ∙ get_after (texts_of a) (texts_of b) c.args.i (omega arith))
