use Rattle.std.proofs.Common.{subst}
use Rattle.asn_fields.specs.FieldsInDer.{AreFields}
use Rattle.pkcs8.proofs.HeadInDer.{ec_parts}
use Rattle.pkcs8.proofs.inner_keys.UnderEcFieldRulesEcPrivateKey.passes_in_der.Goals as goal

pub returns-in-Some-parts_in_der : goal.returns-in-Some-parts_in_der
returns-in-Some-parts_in_der g c = λ pass limit fields value behind rest are b.
    let curve = c.in-Some.ensures limit g.A.NamesKey.behind fields behind
    (subst (λ types. AreFields limit (λ end. types) fields c.args.earlier.now behind) g.met.A.NamesKey.headed are) in
    let parts = ec_parts limit fields value c.args.octets.now c.in-Some-element_in_der.contents.now c.in-Some-parts_in_der.key.now
    c.in-Some-parts_in_der.own.now rest _ _ b c.in-Some-element_in_der.ensures.is (c.in-Some-parts_in_der.ensures limit) in
    c.is_of_curve.ensures pass fields value parts curve
