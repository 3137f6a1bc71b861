use Rattle.std.proofs.Common.{◌<◌, ◌≤◌, List, arith, length, map, true}
use Rattle.std.proofs.lemmas.List.{length-append}
use Rattle.std.proofs.lemmas.List.Sorted.{IsPermutation-map}
use Rattle.tlv_core.specs.Header.{der_header}
use Rattle.x690.specs.DerTexts.{der, texts_of}
use Rattle.x690.specs.Layouts.{universal}
use Rattle.x690.specs.Values.{SetOf, Value, values_of}
use Rattle.asn_elements.proofs.ContainerTexts.{set_length, texts_permuted}
use Rattle.asn_lists.proofs.set_of.SetOf.from_items.Goals as goal

contents_short : (vs : List Value) → length (der (SetOf (universal 17) (values_of vs))) ≤ 1099511627776
    → length (texts_of vs) < 9223372036854775808
contents_short vs short =
    let ts = texts_of vs in
    let e = set_length (universal 17) vs in
    let a = length-append (der_header (universal 17) true (length ts)) ts in
    omega arith

pub in_order-requires : goal.in_order-requires
in_order-requires g c =
    contents_short (map g.T.DerText.value c.args.items.items)
    (grind (arith, c.is_long.ensures, c.if-is_long.false, c.deref.ensures.value))

pub new-requires : goal.new-requires
new-requires g c =
    let f = g.T.DerText.value in
    let vs = map f c.args.items.items in
    let p = texts_permuted vs (map f c.in_ok-sorted.sorted.items)
    (IsPermutation-map f c.args.items.items c.in_ok-sorted.sorted.items c.in_ok-sorted.ensures.same) in
    let short = contents_short vs (grind (arith, c.is_long.ensures, c.if-is_long.false, c.deref.ensures.value)) in
    omega arith
