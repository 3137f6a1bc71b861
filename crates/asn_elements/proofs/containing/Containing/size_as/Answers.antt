use Rattle.std.proofs.Common.{arith, ap, length, false}
use Rattle.std.proofs.lemmas.List.{length-append}
use Rattle.tlv_core.specs.Header.{der_header}
use Rattle.x690.specs.DerTexts.{der}
use Rattle.x690_laws.proofs.LengthsOfTexts.{der_leaf}
use Rattle.asn_elements.proofs.containing.Containing.size_as.Goals as goal

pub returns : goal.returns
returns g c =
    let v = g.T.DerText.value c.args.self.now.inner in
    let t = c.args.tag in
    let e = c.element_size.ensures false in
    let n = c.size.ensures in
    let m = ap (λ k. length (der_header t false k)) n in
    omega (arith, ap length (der_leaf t (der v)), length-append (der_header t false (length (der v))) (der v))
