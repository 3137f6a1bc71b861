use Rattle.std.proofs.Common.{◌∙◌, ◌++◌, ap, false, inl, inr, sym}
use Rattle.x690.specs.DerTexts.{der_element}
use Rattle.pkcs8.proofs.HeadInDer.{parameters_pass}
use Rattle.pkcs8.proofs.key_head.InKeysRulesAlgorithmIdentifier.passes_in_der.Goals as goal

pub returns-then-not-is_ec : goal.returns-then-not-is_ec
returns-then-not-is_ec c = λ pass limit value rest b.
    parameters_pass limit value c.args.octets.now c.in-Some.contents.now c.in-Some-element_in_der.algorithm.now
    c.in-Some-element_in_der.parameters.now rest _ _ _ b c.in-Some.ensures.is c.in-Some-element_in_der.ensures.is
    (inl (sym c.is_ec.ensures ∙ c.if-not-is_ec.true))

pub returns : goal.returns
returns c = λ pass limit value rest b.
    parameters_pass limit value c.args.octets.now c.in-Some.contents.now c.in-Some-element_in_der.algorithm.now
    c.in-Some-element_in_der.parameters.now rest _ _ _ b c.in-Some.ensures.is c.in-Some-element_in_der.ensures.is
    (inr (
      c.in-Some-element_in_der-2._curve.now,
      _,
      c.in-Some-element_in_der-2.ensures.is ∙ ap (λ t. der_element t false c.in-Some-element_in_der-2._curve.now ++ c.in-Some-element_in_der-2.field-0-1.now) c.universal_tag-3.ensures,
    ))
