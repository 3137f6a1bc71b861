use Rattle.std.proofs.Common.{◌∷◌, [], subst}
use Rattle.x690.specs.Layouts.{context_specific}
use Rattle.asn_fields.specs.FieldsInDer.{AreFields}
use Rattle.pkix_values.proofs.InDer.{key_bits_pass}
use Rattle.pkcs8.proofs.key_bits.KeyBitsFieldRulesImplicit1Bits.passes_in_der.Goals as goal

pub returns-in-Some-element_in_der : goal.returns-in-Some-element_in_der
returns-in-Some-element_in_der g c = λ pass limit fields value behind rest are b.
    let head = c.in-Some.ensures limit g.A.NamesKey.behind fields behind
    (subst (λ types. AreFields limit (λ end. types) fields c.args.earlier.now behind) g.met.A.NamesKey.headed are) in
    key_bits_pass limit (context_specific 1) _ (1 ∷ 0 ∷ []) fields value c.args.octets.now c.in-Some.algorithm.now
    c.in-Some-element_in_der.key.now rest _ b head.1 c.in-Some-element_in_der.ensures.is (c.has_length_of.ensures pass)
