use Rattle.pkix_values.proofs.InDer.{key_passes}
use Rattle.pkix_values.proofs.public_key.KeyLengthFieldRulesRequiredBits.passes_in_der.Goals as goal

pub returns-in-Some-element_in_der : goal.returns-in-Some-element_in_der
returns-in-Some-element_in_der g c = λ pass limit fields value behind rest are b.
    key_passes limit g.T.Element.type_term fields value c.args.earlier.now c.args.octets.now c.in-Some.algorithm.now
    c.in-Some-element_in_der.key.now behind rest _ _ are b (λ v begins. c.in-Some.ensures limit v behind begins) c.in-Some-element_in_der.ensures.is
    (c.has_length_of.ensures pass)
