use Rattle.std.proofs.Common.{◌∙◌, ◌++◌, ap, false, sym}
use Rattle.x690.specs.DerTexts.{der_element}
use Rattle.pkcs8.proofs.HeadInDer.{curve_there}
use Rattle.pkcs8.proofs.head_in_der.curve_in_der.Goals as goal

pub returns : goal.returns
returns c = λ limit more fields rest are.
    curve_there fields c.in_ok-_version._version.now c.in_ok-_version.algorithm.now c.in_ok-_version.parameters.now
    c.in_ok-curve.curve.now _ (c.in_ok-_version.ensures limit more fields rest are)
    (sym c.is_ec.ensures ∙ c.if-not-is_ec.false)
    (c.in_ok-curve.ensures.is ∙ ap (λ t. der_element t false c.in_ok-curve.curve.now ++ c.in_ok-curve.field-0-1.now) c.universal_tag.ensures)
