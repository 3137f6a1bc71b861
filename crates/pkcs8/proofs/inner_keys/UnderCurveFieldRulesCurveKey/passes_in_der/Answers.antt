use Rattle.std.proofs.Common.{◌∙◌, subst, sym}
use Rattle.asn_fields.specs.FieldsInDer.{AreFields}
use Rattle.pkcs8.proofs.HeadInDer.{inner_curve_passes}
use Rattle.pkcs8.proofs.inner_keys.UnderCurveFieldRulesCurveKey.passes_in_der.Goals as goal

pub returns-in-Some-element_in_der : goal.returns-in-Some-element_in_der
returns-in-Some-element_in_der g c = λ pass limit fields value behind rest are b.
    let head = c.in-Some.ensures limit g.A.NamesKey.behind fields behind
    (subst (λ types. AreFields limit (λ end. types) fields c.args.earlier.now behind) g.met.A.NamesKey.headed are) in
    inner_curve_passes limit fields value c.in-Some._version.now c.in-Some.algorithm.now c.in-Some._parameters.now
    c.args.octets.now c.in-Some-element_in_der.key.now rest _ _ head b c.in-Some-element_in_der.ensures.is
    (sym c.has_curve_length.ensures ∙ pass)
