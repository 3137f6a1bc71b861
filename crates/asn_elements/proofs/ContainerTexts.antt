-- The texts of containers by those of their members.
use Rattle.std.proofs.Common.{◌≡◌, ◌∙◌, ◌++◌, List, [], ◌∷◌, true, ap, length, map, sym, append_assoc, arith, refl}
use Rattle.std.proofs.lemmas.List.{append-nil, length-append}
use Rattle.std.specs.List.{flat_map, sum_by}
use Rattle.std.proofs.lemmas.List.Concat.{length-flat_map}
use Rattle.std.specs.List.Sorted.{IsPermutation}
use Rattle.std.proofs.lemmas.List.Sorted.{sum_by-IsPermutation}
use Rattle.tlv_core.specs.Header.{der_header}
use Rattle.tlv_core.specs.Identifier.{Tag, identifier}
use Rattle.tlv_core.specs.Length.{shortest_length}
use Rattle.x690.specs.DerTexts.{arrange, der, der_element, der_texts, texts_of}
use Rattle.x690.specs.Lists.{join}
use Rattle.x690.specs.Values.{Sequence, SetOf, Value, values_of}
use Rattle.x690_laws.proofs.LengthsOfContents.{arranged_length}
use Rattle.x690_laws.proofs.LengthsOfTexts.{der_bag, der_row, ders_values}
use Rattle.asn_elements.specs.Framing.{framed}
use Rattle.asn_elements.specs.Members.{ascends}
use Rattle.asn_elements.proofs.Ascending.{ascends_is}

-- of a SET OF whose members stand in order
pub set_text : (tag : Tag) (vs : List Value) → ascends (map der vs) ≡ true
    → der (SetOf tag (values_of vs)) ≡ framed tag (texts_of vs)
set_text tag vs h = der_bag tag vs (ascends_is (map der vs) h)

-- of a single member
pub one_text : (tag : Tag) (v : Value)
    → der (Sequence tag (values_of (v ∷ []))) ≡ der_header tag true (length (der v)) ++ der v
one_text tag v = der_row tag (v ∷ []) ∙ ap (λ z. der_header tag true (length z) ++ z) (append-nil (der v))

texts_flat : (vs : List Value) → texts_of vs ≡ flat_map der vs
texts_flat [] = refl
texts_flat (v ∷ vs) = ap (λ z. der v ++ z) (texts_flat vs)

length_texts : (vs : List Value) → length (texts_of vs) ≡ sum_by (λ v. length (der v)) vs
length_texts vs = ap length (texts_flat vs) ∙ length-flat_map der vs

-- the texts in another order are as long
pub texts_permuted : (vs ws : List Value) → IsPermutation vs ws → length (texts_of ws) ≡ length (texts_of vs)
texts_permuted vs ws h = length_texts ws ∙ (sum_by-IsPermutation (λ v. length (der v)) vs ws h ∙ sym (length_texts vs))

-- of a SET OF, whatever the order of its members
pub arranged_text : (tag : Tag) (vs : List Value)
    → der (SetOf tag (values_of vs)) ≡ framed tag (join (arrange (map der vs)))
unfolding der der_element der_header
arranged_text tag vs =
    let xs = join (arrange (der_texts (values_of vs))) in
    sym (append_assoc (identifier tag true) (shortest_length (length xs)) xs)
    ∙ ap (λ z. framed tag (join (arrange z))) (ders_values vs)

-- arranged, the texts are as long
pub length_arranged : (vs : List Value) → length (join (arrange (map der vs))) ≡ length (texts_of vs)
length_arranged vs = arranged_length (map der vs)

pub set_length : (tag : Tag) (vs : List Value)
    → length (der (SetOf tag (values_of vs))) ≡ length (framed tag (texts_of vs))
set_length tag vs =
    let xs = join (arrange (map der vs)) in
    let ys = texts_of vs in
    let t = ap length (arranged_text tag vs) in
    let e = length_arranged vs in
    let h = ap (λ n. length (der_header tag true n)) e in
    omega
    (arith, length-append (der_header tag true (length xs)) xs, length-append (der_header tag true (length ys)) ys)
