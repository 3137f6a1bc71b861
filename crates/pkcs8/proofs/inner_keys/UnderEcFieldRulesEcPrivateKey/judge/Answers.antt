use Rattle.std.proofs.Common.{rules, ◌∙◌, ◌∷◌, [], ap, false, sym, true}
use Rattle.tlv_core.specs.declared.reason.Reason.TheVariants.{KeyLength}
use Rattle.asn_elements.specs.Leaves.{bit_string_of, octets_of}
use Rattle.pkcs8.specs.Keys.{curve_octets}
use Rattle.pkcs8.proofs.InnerKeys.{another_curve, of_no_curve, some_is}
use Rattle.pkcs8.proofs.inner_keys.UnderEcFieldRulesEcPrivateKey.judge.Goals as goal

pub returns-then-eq : goal.returns-then-eq
returns-then-eq g c =
    let key = c.args.field.now.0.value.fields.0 in
    sym (another_curve (λ t. t.inner) (λ t. bit_string_of t.inner) (key.0.0.0.number ∷ []) (octets_of key.0.1.0)
    (g.A.FieldsText.values c.args.earlier.now)
    key.1.0.0 key.1.1.0 c.contents_of-own.result.now c.contents_of.result.now true
    (c.contents_of-own.ensures ∙ ap curve_octets c.curve.ensures) (c.head.ensures.curve ∙ c.curve-due.ensures ∙ sym c.contents_of.ensures)
    (search rules) (search rules))

pub returns-else-eq : goal.returns-else-eq
returns-else-eq g c =
    let key = c.args.field.now.0.value.fields.0 in
    sym (another_curve (λ t. t.inner) (λ t. bit_string_of t.inner) (key.0.0.0.number ∷ []) (octets_of key.0.1.0)
    (g.A.FieldsText.values c.args.earlier.now)
    key.1.0.0 key.1.1.0 c.contents_of-own.result.now c.contents_of.result.now false
    (c.contents_of-own.ensures ∙ ap curve_octets c.curve.ensures) (c.head.ensures.curve ∙ c.curve-due.ensures ∙ sym c.contents_of.ensures)
    (search rules) (search rules))

pub returns : goal.returns
returns g c =
    let key = c.args.field.now.0.value.fields.0 in
    let fits = c.has_length_on.result in
    c.then_some.ensures
    ∙ some_is fits KeyLength
    ∙ sym (of_no_curve (λ t. t.inner) (λ t. bit_string_of t.inner) (key.0.0.0.number ∷ []) (octets_of key.0.1.0)
    (g.A.FieldsText.values c.args.earlier.now) key.1.0.0 key.1.1.0 c.contents_of-own.result.now _ fits
    (c.contents_of-own.ensures ∙ ap curve_octets c.curve.ensures) (c.head.ensures.curve ∙ c.curve-due.ensures)
    (search rules) (search rules))
