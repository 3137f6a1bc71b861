-- Lengths and pieces of DER texts, for code that writes them.
use Rattle.std.proofs.Common.{◌≡◌, ℕ, ◌+◌, ◌*◌, nat_lt, cond, Bool, true, false, List, [], ◌∷◌, ◌++◌, map, length, refl, sym, ◌∙◌, ap, subst, append_assoc}
use Rattle.x690_laws.proofs.TextsAsLayouts.{ders_texts, arrange_ascends}
use Rattle.tlv_core.specs.Header.{der_header}
use Rattle.tlv_core.specs.Identifier.{Tag, base128, identifier}
use Rattle.tlv_core.specs.Length.{shortest_length}
use Rattle.x690.specs.DerTexts.{Ascends, arrange, der, der_element, der_texts, texts_of}
use Rattle.x690.specs.Lists.{join}
use Rattle.x690.specs.Values.{Leaf, Sequence, SetOf, Value, values_of}

pub ders_values : (vs : List Value) → der_texts (values_of vs) ≡ map der vs
unfolding der
ders_values [] = refl
ders_values (v ∷ vs) = ap (λ s. der v ∷ s) (ders_values vs)

pub der_leaf : (t : Tag) (o : List ℕ) → der (Leaf t o) ≡ der_header t false (length o) ++ o
unfolding der der_element der_header
der_leaf t o = sym (append_assoc (identifier t false) (shortest_length (length o)) o)

pub der_row : (t : Tag) (vs : List Value)
    → der (Sequence t (values_of vs)) ≡ der_header t true (length (texts_of vs)) ++ texts_of vs
unfolding der der_element der_header
der_row t vs =
    ap (λ s. der_element t true (join s)) (ders_values vs)
    ∙ sym (append_assoc (identifier t true) (shortest_length (length (texts_of vs))) (texts_of vs))

pub der_bag : (t : Tag) (vs : List Value) → Ascends (map der vs)
    → der (SetOf t (values_of vs)) ≡ der_header t true (length (texts_of vs)) ++ texts_of vs
unfolding der der_element der_header
der_bag t vs a =
    let e = ders_values vs in
    let q : arrange (der_texts (values_of vs)) ≡ map der vs =
    arrange_ascends (der_texts (values_of vs)) (ders_texts (values_of vs)) (subst Ascends (sym e) a) ∙ e in
    ap (λ s. der_element t true (join s)) q
    ∙ sym (append_assoc (identifier t true) (shortest_length (length (texts_of vs))) (texts_of vs))

pub header_form : (t : Tag) (f g : Bool) (n : ℕ) → length (der_header t f n) ≡ length (der_header t g n)
unfolding der_header identifier
header_form t f g n =
    elim (nat_lt t.number 31) as (λ b.
    length (cond b ((t.class * 64 + cond f 32 0 + t.number) ∷ []) ((t.class * 64 + cond f 32 0 + 31) ∷ base128 t.number)
    ++ shortest_length n)
    ≡ length (cond b ((t.class * 64 + cond g 32 0 + t.number) ∷ [])
    ((t.class * 64 + cond g 32 0 + 31) ∷ base128 t.number)
    ++ shortest_length n))
    [ true ↦ refl | false ↦ refl ]
