use Rattle.std.proofs.Common.{◌≡◌, arith, ap, length, map, refl, rules, true}
use Rattle.std.proofs.lemmas.List.{length-append}
use Rattle.tlv_core.specs.Header.{der_header}
use Rattle.x690.specs.DerTexts.{der, texts_of}
use Rattle.x690.specs.Layouts.{universal}
use Rattle.x690.specs.Values.{SetOf, values_of}
use Rattle.asn_elements.proofs.ContainerTexts.{set_length}
use Rattle.asn_lists.proofs.set_of.is_long.Goals as goal

pub returns-in-Some : goal.returns-in-Some
returns-in-Some g c =
    let vs = map g.T.DerText.value c.args.items.now in
    let ts = texts_of vs in
    let e = set_length (universal 17) vs in
    let n = c.in-Some.ensures.some.0 in
    let h = ap (λ k. length (der_header (universal 17) true k)) n in
    let a = length-append (der_header (universal 17) true (length ts)) ts in
    let r = c.element_size.ensures true in
    let t = ap (λ tag. length (der_header tag true c.in-Some.content)) c.universal_tag.ensures in
    let same : c.element_size.result ≡ length (der (SetOf (universal 17) (values_of vs))) = omega arith in
    rw (← same) (search rules)

pub returns-in-None : goal.returns-in-None
returns-in-None g c =
    let vs = map g.T.DerText.value c.args.items.now in
    let ts = texts_of vs in
    let e = set_length (universal 17) vs in
    let a = length-append (der_header (universal 17) true (length ts)) ts in
    let n = c.in-None.ensures.none refl in
    (λ _. omega arith, λ _. refl)
