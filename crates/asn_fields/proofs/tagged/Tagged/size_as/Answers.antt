use Rattle.std.proofs.Common.{arith, ap, length, true}
use Rattle.std.proofs.lemmas.List.{length-append}
use Rattle.tlv_core.specs.Header.{der_header}
use Rattle.x690.specs.DerTexts.{der}
use Rattle.asn_elements.proofs.ContainerTexts.{one_text}
use Rattle.asn_fields.proofs.tagged.Tagged.size_as.Goals as goal

pub returns : goal.returns
returns g c =
    let v = g.T.DerText.value c.args.self.now.inner in
    let t = c.args.tag in
    let e = c.element_size.ensures true in
    let n = c.size.ensures in
    let m = ap (λ k. length (der_header t true k)) n in
    omega (arith, ap length (one_text t v), length-append (der_header t true (length (der v))) (der v))
