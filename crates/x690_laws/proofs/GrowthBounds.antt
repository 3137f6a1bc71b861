-- The bounds on the growth of DER texts.
use Rattle.std.proofs.Common.{◌≡◌, ℕ, ◌+◌, ◌*◌, ◌<◌, ◌≤◌, inl, ⊎_elim, Bool, true, false, List, [], ◌∷◌, ◌++◌, length, refl, sym, ap, subst, arith, append-nil}
use Rattle.std.proofs.lemmas.List.{length-append}
use Rattle.tlv_core.specs.Identifier.{Tag, identifier}
use Rattle.tlv_core.specs.Length.{SpellsLength, shortest_length}
use Rattle.x690_laws.proofs.LengthsOfContents.{frame, framed_length, joined_append}
use Rattle.x690_laws.proofs.GrowthByType.{Framed, Growing, grows}
use Rattle.x690_laws.proofs.LengthsOfHeaders.{definite_length, element_length, identifier_form, identifier_some, indefinite_length, shortest_against, shortest_one, shortest_within, spelled_cases, spelled_some}
use Rattle.x690.specs.Contents.{BitString, LeafContents, Segmented, all_segments, segments}
use Rattle.x690.specs.DerTexts.{der, der_element}
use Rattle.x690.specs.Fitting.{Fits}
use Rattle.x690.specs.Layouts.{AllLaidOut, Constructed, Definite, FirstTree, LaidOut, NoTrees, Primitive, RawTree, RawTrees, universal}
use Rattle.tlv_core.specs.ObjectIdentifier.{AllBelow}
use Rattle.x690.specs.Lists.{join}
use Rattle.x690.specs.TypeTerms.{LeafType}
use Rattle.x690.specs.Values.{Leaf}
use Rattle.x690_laws.specs.GrowthLaws.{Growth, GrowthByHalf, GrowthByTwo, HalfIsReached}

-- lists of octets

below_front : (n : ℕ) (x y : List ℕ) → AllBelow n (x ++ y) → AllBelow n x
below_front n [] y h = tt
below_front n (a ∷ x) y h = (h.0, below_front n x y h.1)

below_back : (n : ℕ) (x y : List ℕ) → AllBelow n (x ++ y) → AllBelow n y
below_back n [] y h = h
below_back n (a ∷ x) y h = below_back n x y h.1

below_append : (n : ℕ) (x y : List ℕ) → AllBelow n x → AllBelow n y → AllBelow n (x ++ y)
below_append n [] y h k = k
below_append n (a ∷ x) y h k = (h.0, below_append n x y h.1 k)

mutual
  unfolding LaidOut segments

  segments_below : (n : ℕ) (r : RawTree) (b : List ℕ) → LaidOut r b → AllBelow n b → AllBelow n (join (segments r))
  segments_below n (Primitive t o) b h a =
      subst (AllBelow n) (sym (append-nil o))
      (below_back n h.1.length_octets o
      (below_back n (identifier t false) (h.1.length_octets ++ o) (subst (AllBelow n) h.1.is a)))
  segments_below n (Constructed t rs) b h a = ⊎_elim
      (λ d.
      all_segments_below n rs h.1.0 h.1.1
      (below_back n d.length_octets h.1.0
      (below_back n (identifier t true) (d.length_octets ++ h.1.0) (subst (AllBelow n) d.is a))))
      (λ d.
      all_segments_below n rs h.1.0 h.1.1
      (below_front n h.1.0 (0 ∷ 0 ∷ [])
      (below_back n (128 ∷ []) (h.1.0 ++ (0 ∷ 0 ∷ []))
      (below_back n (identifier t true) (128 ∷ (h.1.0 ++ (0 ∷ 0 ∷ []))) (subst (AllBelow n) d.is a)))))
      h.1.2

  all_segments_below : (n : ℕ) (rs : RawTrees) (c : List ℕ) → AllLaidOut rs c → AllBelow n c
      → AllBelow n (join (all_segments rs))
  all_segments_below n NoTrees c h a = tt
  all_segments_below n (FirstTree r rs) c h a =
      let a' : AllBelow n (h.0 ++ h.1) = subst (AllBelow n) h.4 a in
      subst (AllBelow n) (sym (joined_append (segments r) (all_segments rs)))
      (below_append n (join (segments r)) (join (all_segments rs))
      (segments_below n r h.0 h.2 (below_front n h.0 h.1 a'))
      (all_segments_below n rs h.1 h.3 (below_back n h.0 h.1 a')))

held_length : (r : RawTree) (b : List ℕ) → LaidOut r b → length (join (segments r)) ≤ length b
held_length r b h = let f = frame r b h in omega (arith, framed_length r b f.form f.contents f.framed)

-- an element with one octet of contents at most

brief_length : (t : Tag) (f g : Bool) (o c b : List ℕ) → length o ≤ 1 → Framed t g c b
    → (length (der_element t f o) ≤ length b + 1) × (2 ≤ length b)
brief_length t f g o c b l h =
    let e = element_length t f o in
    let one = shortest_one (length o) (omega arith) in
    ⊎_elim
    (λ d.
    let k = definite_length t g c b d in
    let some = spelled_some (length c) d.length_octets d.spells in
    (omega (arith, identifier_form t f g), omega (arith, identifier_some t g)))
    (λ d.
    let k = indefinite_length t c b d in
    (omega (arith, identifier_form t f true), omega (arith, identifier_some t true)))
    h

-- at most twice as long

twice_element : (t : Tag) (f g : Bool) (o c b : List ℕ) → length b < 2147483648 → length o ≤ 2 * length c
    → Framed t g c b → length (der_element t f o) ≤ 2 * length b
twice_element t f g o c b a l h =
    let e = element_length t f o in
    ⊎_elim
    (λ d.
    let k = definite_length t g c b d in
    let i = identifier_form t f g in
    let some = identifier_some t g in
    ⊎_elim
    (λ x. omega (arith, x.one, x.small, shortest_within 1 (length o) (omega (arith, x.small))))
    (λ x. omega (arith, ap length x.is, x.some, shortest_within 4 (length o) (omega arith)))
    (spelled_cases (length c) d.length_octets d.spells))
    (λ d.
    let k = indefinite_length t c b d in
    omega (arith, identifier_form t f true, identifier_some t true, shortest_within 4 (length o) (omega arith)))
    h

twice : Growing (λ b. length b < 2147483648) (λ m n. m ≤ 2 * n)
twice = record {
  front = λ x y h. omega (arith, length-append x y);
  back = λ x y h. omega (arith, length-append x y);
  held = λ r b h a. omega (arith, held_length r b h);
  within = λ m n h. omega arith;
  slack = λ m n n' l h. omega arith;
  joined = λ m m' n n' h k. omega arith;
  brief = λ t f g o c b l h. let x = brief_length t f g o c b l h in omega (arith, x.0, x.1);
  element = twice_element;
}

pub growth_by_two : GrowthByTwo
growth_by_two d T earlier r v b a h k = grows twice d T earlier r v b a h k

-- at most five times as long: so it is of octets of any length that is below 2^64 five times

five_times : (t : Tag) (f g : Bool) (o c b : List ℕ) → length b < 1152921504606846976 → length o ≤ 5 * length c
    → Framed t g c b → length (der_element t f o) ≤ 5 * length b
five_times t f g o c b a l h =
    let e = element_length t f o in
    ⊎_elim
    (λ d.
    let k = definite_length t g c b d in
    let some = spelled_some (length c) d.length_octets d.spells in
    omega (arith, identifier_form t f g, identifier_some t g, shortest_within 8 (length o) (omega arith)))
    (λ d.
    let k = indefinite_length t c b d in
    omega (arith, identifier_form t f true, identifier_some t true, shortest_within 8 (length o) (omega arith)))
    h

five : Growing (λ b. length b < 1152921504606846976) (λ m n. m ≤ 5 * n)
five = record {
  front = λ x y h. omega (arith, length-append x y);
  back = λ x y h. omega (arith, length-append x y);
  held = λ r b h a. omega (arith, held_length r b h);
  within = λ m n h. omega arith;
  slack = λ m n n' l h. omega arith;
  joined = λ m m' n n' h k. omega arith;
  brief = λ t f g o c b l h. let x = brief_length t f g o c b l h in omega (arith, x.0, x.1);
  element = five_times;
}

pub growth : Growth
growth d T earlier r v b a h k = grows five d T earlier r v b a h k

-- at most half as long again

half_definite : (t : Tag) (f g : Bool) (o c b : List ℕ) → AllBelow 256 b → 2 * length o ≤ 3 * length c
    → Definite t g c b → 2 * length (der_element t f o) ≤ 3 * length b
half_definite t f g o c b a l d =
    let below = below_front 256 d.length_octets c
    (below_back 256 (identifier t g) (d.length_octets ++ c) (subst (AllBelow 256) d.is a)) in
    let s = shortest_against (length o) (length c) d.length_octets below l d.spells in
    omega (
      arith,
      element_length t f o,
      definite_length t g c b d,
      identifier_form t f g,
      identifier_some t g,
      spelled_some (length c) d.length_octets d.spells,
    )

half_element : (t : Tag) (f g : Bool) (o c b : List ℕ) → AllBelow 256 b × (length b < 2147483648)
    → 2 * length o ≤ 3 * length c → Framed t g c b → 2 * length (der_element t f o) ≤ 3 * length b
half_element t f g o c b a l h = ⊎_elim
    (λ d. half_definite t f g o c b a.0 l d)
    (λ d.
    let k = indefinite_length t c b d in
    let short : length b < 2147483648 = a.1 in
    omega (
      arith,
      element_length t f o,
      identifier_form t f true,
      identifier_some t true,
      shortest_within 4 (length o) (omega arith),
    ))
    h

half : Growing (λ b. AllBelow 256 b × (length b < 2147483648)) (λ m n. 2 * m ≤ 3 * n)
half = record {
  front = λ x y h. (below_front 256 x y h.0, omega (arith, h.1, length-append x y));
  back = λ x y h. (below_back 256 x y h.0, omega (arith, h.1, length-append x y));
  held = λ r b h a. (segments_below 256 r b h a.0, omega (arith, a.1, held_length r b h));
  within = λ m n h. omega arith;
  slack = λ m n n' l h. omega arith;
  joined = λ m m' n n' h k. omega arith;
  brief = λ t f g o c b l h. let x = brief_length t f g o c b l h in omega (arith, x.0, x.1);
  element = half_element;
}

pub growth_by_half : GrowthByHalf
growth_by_half d T earlier r v b o a h k = grows half d T earlier r v b (o, a) h k

-- the bound is reached by a bit string of no segments: 23 00, which is 03 01 00

no_segments : LaidOut (Constructed (universal 3) NoTrees) (35 ∷ 0 ∷ [])
unfolding LaidOut SpellsLength identifier
no_segments = (
  record { class_fits = omega arith; number_fits = omega arith; not_end = λ e. absurd (omega arith) },
  ([], refl, inl (record { length_octets = 0 ∷ []; spells = inl (omega arith, refl, refl); is = refl })),
)

no_bits : Fits 1 (LeafType (universal 3) BitString) [] (Constructed (universal 3) NoTrees) (Leaf (universal 3) (0 ∷ []))
unfolding Fits LeafContents Segmented segments
no_bits = (refl, 0 ∷ [], record { segmented = tt; each = tt; is = refl }, refl)

no_bits_text : der (Leaf (universal 3) (0 ∷ [])) ≡ 3 ∷ 1 ∷ 0 ∷ []
unfolding der der_element identifier shortest_length
no_bits_text = refl

pub half_is_reached : HalfIsReached
half_is_reached = record {
  depth = 1;
  type = LeafType (universal 3) BitString;
  tree = Constructed (universal 3) NoTrees;
  value = Leaf (universal 3) (0 ∷ []);
  octets = 35 ∷ 0 ∷ [];
  below = (omega arith, (omega arith, tt));
  some = omega arith;
  short = omega arith;
  laid_out = no_segments;
  fits = no_bits;
  is = ap (λ x. 2 * length x) no_bits_text;
}
