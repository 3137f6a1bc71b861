use Rattle.std.proofs.Common.{◌≡◌, ◌++◌, ◌∙◌, ap, arith, false, get_or, inl, inr, refl, true}
use Rattle.std.proofs.lemmas.List.{nil_from_length}
use Rattle.x690.specs.DerTexts.{der_element}
use Rattle.private_keys.proofs.ec_private_key.curve_in_der.Goals as goal

pub returns-in_default : goal.returns-in_default
returns-in_default c =
    let octets = c.args.octets.now in
    let none = nil_from_length octets (omega (arith, c.in_default.len_below)) in
    let zero : get_or octets 0 0 ≡ 0 = ap (λ z. get_or z 0 0) none in
    inr (none, λ e. absurd (omega (arith, zero, e)))

pub returns-then-first : goal.returns-then-first
returns-then-first c = inr (refl, c.if-first.true)

pub returns : goal.returns
returns c = inl (
  c.in_ok-contents.contents.now,
  _,
  _,
  c.in_ok-contents.ensures.is ∙ ap (λ t. der_element t true c.in_ok-contents.contents.now ++ c.in_ok-contents.field-0-1.now) c.context_tag.ensures,
  c.in_ok-curve.ensures.is ∙ ap (λ t. der_element t false c.in_ok-curve.curve.now ++ c.in_ok-curve.field-0-1.now) c.universal_tag.ensures,
)
