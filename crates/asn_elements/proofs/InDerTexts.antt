-- Headers and leaves that stand in DER.
use Rattle.std.proofs.Common.{◌≡◌, ◌∙◌, ◌*◌, ◌+◌, ◌++◌, ◌-◌, ◌/◌, ◌%◌, ◌<◌, ◌≤◌, ◌∷◌, ⊎_elim, Bool, List, None, [], ap, ap₂, append-nil, append_assoc, arith, cond, drop, false, get_or, inl, length, nat_le, refl, subst, sym, take, true, ℕ}
use Rattle.std.proofs.lemmas.Bool.Decides.{nat_tests}
use Rattle.std.proofs.lemmas.List.{length-take-le, take-append-drop, take_rest}
use Rattle.tlv_core.specs.Identifier.{IsTag, Tag, identifier}
use Rattle.tlv_core.specs.Length.{number_octets, shortest_length}
use Rattle.tlv_core.proofs.Digits.{number_last, number_none}
use Rattle.x690.specs.Contents.{LeafContents, LeafKind}
use Rattle.x690.specs.DerTexts.{der, der_element}
use Rattle.x690.specs.Fitting.{Fits}
use Rattle.x690.specs.Layouts.{AllLaidOut, Constructed, LaidOut, Primitive, RawTree, trees_depth}
use Rattle.x690.specs.Lists.{Each, join}
use Rattle.x690.specs.ReadContents.{der_contents, is_contents}
use Rattle.x690.specs.TypeTerms.{ContainingType, LeafType, Rule, TypeTerm}
use Rattle.x690.specs.Values.{Leaf, Value}
use Rattle.x690_laws.proofs.LayoutsOfHeaders.{identifier_cases}
use Rattle.x690_laws.proofs.ReadingLeavesSound.{contents_fit}
use Rattle.x690_laws.proofs.TextsAsLayouts.{shortest_cases}
use Rattle.x690_laws.proofs.TextsAsTrees.{element_definite, raws_of}
use Rattle.x690_laws.proofs.TextsSpell.{octets_prim}
use Rattle.asn_elements.specs.InDer.{BeginsInDer, ContainsInDer, LaidOutWithin, StandsInDer}

-- the fewest octets of a length below 2^24

brief : (n : ℕ) → n < 128 → shortest_length n ≡ n ∷ []
brief n small = ⊎_elim (λ a. a.is) (λ a. absurd (omega (arith, a.large))) (shortest_cases n)

counted : (n : ℕ) (octets : List ℕ) → 128 ≤ n → number_octets n n ≡ octets
    → shortest_length n ≡ (128 + length octets) ∷ octets
counted n octets large is =
    ⊎_elim (λ a. absurd (omega (arith, a.small))) (λ a. a.is ∙ ap (λ o. (128 + length o) ∷ o) is) (shortest_cases n)

one_octet : (n : ℕ) → 0 < n → n < 256 → number_octets n n ≡ n ∷ []
one_octet n some small =
    number_last n some
    ∙ ap₂ (λ a b. a ++ (b ∷ [])) (number_none (n / 256) (n / 256) (omega arith)) (omega arith)

two_octets : (high low : ℕ) → 0 < high → high < 256 → low < 256
    → number_octets (high * 256 + low) (high * 256 + low) ≡ high ∷ low ∷ []
two_octets high low some h l =
    let n = high * 256 + low in
    let quotient : n / 256 ≡ high = omega arith in
    let rest : n % 256 ≡ low = omega arith in
    number_last n (omega arith)
    ∙ ap₂ (λ a b. a ++ (b ∷ [])) (ap (λ m. number_octets m m) quotient ∙ one_octet high some h) rest

three_octets : (high middle low : ℕ) → 0 < high → high < 256 → middle < 256 → low < 256
    → number_octets ((high * 256 + middle) * 256 + low) ((high * 256 + middle) * 256 + low)
    ≡ high ∷ middle ∷ low ∷ []
three_octets high middle low some h m l =
    let upper = high * 256 + middle in
    let n = upper * 256 + low in
    let quotient : n / 256 ≡ upper = omega arith in
    let rest : n % 256 ≡ low = omega arith in
    number_last n (omega arith)
    ∙ ap₂ (λ a b. a ++ (b ∷ [])) (ap (λ m. number_octets m m) quotient ∙ two_octets high middle some h m) rest

-- octets that begin with such a length

pub one_in_der : (octets : List ℕ) (n : ℕ) → 1 ≤ length octets → get_or octets 0 0 < 128 → n ≡ get_or octets 0 0
    → octets ≡ shortest_length n ++ take (length octets - 1) (drop 1 octets)
one_in_der [] n some low is = absurd (omega arith)
one_in_der (x ∷ octets) n some low is =
    let e : shortest_length n ≡ x ∷ [] = brief n (omega arith) ∙ ap (λ m. m ∷ []) is in
    let r : take (length (x ∷ octets) - 1) (drop 1 (x ∷ octets)) ≡ octets = take_rest (x ∷ octets) 1 in
    sym (ap₂ (λ a b. a ++ b) e r)

pub two_in_der : (octets : List ℕ) (n : ℕ) → 2 ≤ length octets → get_or octets 0 0 ≡ 129 → 128 ≤ get_or octets 1 0
    → get_or octets 1 0 < 256 → n ≡ get_or octets 1 0
    → octets ≡ shortest_length n ++ take (length octets - 2) (drop 2 octets)
two_in_der [] n some first large low is = absurd (omega arith)
two_in_der (x ∷ []) n some first large low is = absurd (omega arith)
two_in_der (x ∷ y ∷ octets) n some first large low is =
    let t : number_octets y y ≡ y ∷ [] = one_octet y (omega arith) low in
    let e : shortest_length n ≡ 129 ∷ y ∷ [] = ap shortest_length is ∙ counted y (y ∷ []) large t in
    let r : take (length (x ∷ y ∷ octets) - 2) (drop 2 (x ∷ y ∷ octets)) ≡ octets = take_rest (x ∷ y ∷ octets) 2 in
    ap (λ a. a ∷ y ∷ octets) first ∙ sym (ap₂ (λ a b. a ++ b) e r)

pub three_in_der : (octets : List ℕ) (n : ℕ) → 3 ≤ length octets → get_or octets 0 0 ≡ 130 → 0 < get_or octets 1 0
    → get_or octets 1 0 < 256 → get_or octets 2 0 < 256 → n ≡ get_or octets 1 0 * 256 + get_or octets 2 0
    → octets ≡ shortest_length n ++ take (length octets - 3) (drop 3 octets)
three_in_der [] n some first large high low is = absurd (omega arith)
three_in_der (x ∷ []) n some first large high low is = absurd (omega arith)
three_in_der (x ∷ y ∷ []) n some first large high low is = absurd (omega arith)
three_in_der (x ∷ y ∷ z ∷ octets) n some first large high low is =
    let t : number_octets (y * 256 + z) (y * 256 + z) ≡ y ∷ z ∷ [] = two_octets y z large high low in
    let e : shortest_length n ≡ 130 ∷ y ∷ z ∷ [] =
    ap shortest_length is ∙ counted (y * 256 + z) (y ∷ z ∷ []) (omega arith) t in
    let r : take (length (x ∷ y ∷ z ∷ octets) - 3) (drop 3 (x ∷ y ∷ z ∷ octets)) ≡ octets =
    take_rest (x ∷ y ∷ z ∷ octets) 3 in
    ap (λ a. a ∷ y ∷ z ∷ octets) first ∙ sym (ap₂ (λ a b. a ++ b) e r)

pub four_in_der : (octets : List ℕ) (n : ℕ) → 4 ≤ length octets → get_or octets 0 0 ≡ 131 → 0 < get_or octets 1 0
    → get_or octets 1 0 < 256 → get_or octets 2 0 < 256 → get_or octets 3 0 < 256
    → n ≡ (get_or octets 1 0 * 256 + get_or octets 2 0) * 256 + get_or octets 3 0
    → octets ≡ shortest_length n ++ take (length octets - 4) (drop 4 octets)
four_in_der [] n some first large high middle low is = absurd (omega arith)
four_in_der (w ∷ []) n some first large high middle low is = absurd (omega arith)
four_in_der (w ∷ x ∷ []) n some first large high middle low is = absurd (omega arith)
four_in_der (w ∷ x ∷ y ∷ []) n some first large high middle low is = absurd (omega arith)
four_in_der (w ∷ x ∷ y ∷ z ∷ octets) n some first large high middle low is =
    let m = (x * 256 + y) * 256 + z in
    let t : number_octets m m ≡ x ∷ y ∷ z ∷ [] = three_octets x y z large high middle low in
    let e : shortest_length n ≡ 131 ∷ x ∷ y ∷ z ∷ [] =
    ap shortest_length is ∙ counted m (x ∷ y ∷ z ∷ []) (omega arith) t in
    let r : take (length (w ∷ x ∷ y ∷ z ∷ octets) - 4) (drop 4 (w ∷ x ∷ y ∷ z ∷ octets)) ≡ octets =
    take_rest (w ∷ x ∷ y ∷ z ∷ octets) 4 in
    ap (λ a. a ∷ x ∷ y ∷ z ∷ octets) first ∙ sym (ap₂ (λ a b. a ++ b) e r)

-- an identifier of one octet

pub short_identifier : (t : Tag) (f : Bool) (class form number : ℕ) → class ≡ t.class → form ≡ cond f 32 0
    → number ≡ t.number → number < 31 → identifier t f ≡ (class * 64 + form + number) ∷ []
short_identifier t f class form number same_class same_form same_number small = ⊎_elim
    (λ a. a.is ∙ ap (λ x. x ∷ []) (omega arith))
    (λ a. absurd (omega (arith, a.large)))
    (identifier_cases t f)

pub identifier_from : (t : Tag) (first : ℕ) → t.class ≡ first / 64 → t.number ≡ first % 32 → t.number < 31
    → identifier t (nat_le 32 (first % 64)) ≡ first ∷ []
identifier_from t first same_class same_number small = go (nat_le 32 (first % 64)) refl
  where
    go : (b : Bool) → nat_le 32 (first % 64) ≡ b → identifier t b ≡ first ∷ []
    go false e =
        let low : first % 64 < 32 = grind (arith, nat_tests) in
        short_identifier t false t.class 0 t.number refl refl refl small ∙ ap (λ x. x ∷ []) (omega arith)
    go true e =
        let high : 32 ≤ first % 64 = grind (arith, nat_tests) in
        short_identifier t true t.class 32 t.number refl refl refl small ∙ ap (λ x. x ∷ []) (omega arith)

-- trees that are laid out one after another

pub laid_out_all : (left : ℕ) (trees : List RawTree) (texts : List (List ℕ)) → Each (LaidOutWithin left) trees texts
    → AllLaidOut (raws_of trees) (join texts)
unfolding LaidOut
laid_out_all left [] [] h = refl
laid_out_all left [] (x ∷ texts) h = absurd h
laid_out_all left (t ∷ trees) [] h = absurd h
laid_out_all left (t ∷ trees) (x ∷ texts) h = (x, join texts, h.0.0, laid_out_all left trees texts h.1, refl)

pub depths_within : (left : ℕ) (trees : List RawTree) (texts : List (List ℕ)) → Each (LaidOutWithin left) trees texts
    → trees_depth (raws_of trees) ≤ left + 1
depths_within left [] [] h = omega arith
depths_within left [] (x ∷ texts) h = absurd h
depths_within left (t ∷ trees) [] h = absurd h
depths_within left (t ∷ trees) (x ∷ texts) h =
    let first = h.0.1 in let others = depths_within left trees texts h.1 in omega arith

pub container_laid_out : (left : ℕ) (t : Tag) (trees : List RawTree) (texts : List (List ℕ)) → IsTag t
    → length (join texts) < 16777216 → Each (LaidOutWithin left) trees texts
    → LaidOutWithin (left + 1) (Constructed t (raws_of trees)) (der_element t true (join texts))
unfolding LaidOut
container_laid_out left t trees texts tag small h =
    let deep = depths_within left trees texts h in (
      (tag, (join texts, laid_out_all left trees texts h, inl (element_definite t true (join texts) (omega arith)))),
      omega arith,
    )

-- octets that begin with an element

pub element_stands : (octets behind after : List ℕ) (first lead size : ℕ) (t : Tag) (f : Bool)
    → octets ≡ first ∷ behind → first ≡ lead → identifier t f ≡ lead ∷ [] → behind ≡ shortest_length size ++ after
    → size ≤ length after
    → octets ≡ der_element t f (take size after) ++ take (length after - size) (drop size after)
unfolding der_element
element_stands octets behind after first lead size t f begins same is header within =
    let c = take size after in
    let r = take (length after - size) (drop size after) in
    let many : shortest_length (length c) ≡ shortest_length size =
    ap shortest_length (length-take-le size after within) in
    let whole : c ++ r ≡ after = ap (λ z. c ++ z) (take_rest after size) ∙ take-append-drop size after in
    let parts : identifier t f ++ (shortest_length (length c) ++ (c ++ r))
    ≡ (lead ∷ []) ++ (shortest_length size ++ after) =
    ap₂ (λ a b. a ++ b) is (ap₂ (λ a b. a ++ b) many whole) in
    let all : (lead ∷ []) ++ (shortest_length size ++ after) ≡ octets =
    ap₂ (λ a b. a ∷ b) (sym same) (sym header) ∙ sym begins in
    simp append_assoc (sym (parts ∙ all))

-- a leaf in DER

pub leaf_stands : (limit left : ℕ) (t : Tag) (kind : LeafKind) (octets contents rest : List ℕ) → IsTag t
    → octets ≡ der_element t false contents ++ rest → length contents < 16777216
    → is_contents kind contents ≡ true → der_contents kind contents ≡ contents
    → BeginsInDer limit left (LeafType t kind) octets rest
unfolding der Fits LaidOut
leaf_stands limit left t kind octets contents rest tag is small h same = (
  Leaf t contents,
  λ earlier. record {
    is = is;
    tree = Primitive t contents;
    laid_out = (tag, element_definite t false contents (omega arith));
    depth_fits = omega arith;
    fits = (
      refl,
      contents,
      subst (LeafContents kind (Primitive t contents)) same (contents_fit kind t contents h),
      refl,
    );
  },
)

-- an OCTET STRING in DER that contains an element in DER and nothing else

containing_stands : (limit left inner : ℕ) (own : Tag) (rule : Rule) (T : TypeTerm) (earlier : List Value)
    (contained : Value) (octets contents rest : List ℕ)
    → IsTag own → octets ≡ der_element own false contents ++ rest → length contents < 16777216 → inner + 1 ≤ limit
    → StandsInDer limit inner T earlier contained contents [] → rule earlier contained ≡ None
    → StandsInDer limit left (ContainingType own rule T) earlier (Leaf own (der contained)) octets rest
unfolding der Fits LaidOut
containing_stands limit left inner own rule T earlier contained octets contents rest tag is small deep s passes =
    let whole : contents ≡ der contained = s.is ∙ append-nil (der contained) in
    let short : length (der contained) < 16777216 = subst (λ z. length z < 16777216) whole small in
    record {
      is = subst (λ z. octets ≡ der_element own false z ++ rest) whole is;
      tree = Primitive own (der contained);
      laid_out = (tag, element_definite own false (der contained) (omega arith));
      depth_fits = omega arith;
      fits = (
        refl,
        der contained,
        octets_prim own (der contained),
        s.tree,
        contained,
        omega (arith, s.depth_fits),
        s.laid_out,
        s.fits,
        refl,
        passes,
      );
    }

pub contains_in_der : (limit inner : ℕ) (own : Tag) (T : TypeTerm) (octets contents rest behind : List ℕ)
    → IsTag own → octets ≡ der_element own false contents ++ rest → length contents < 16777216 → inner + 1 ≤ limit
    → BeginsInDer limit inner T contents behind → behind ≡ []
    → ContainsInDer limit own T octets contents rest
contains_in_der limit inner own T octets contents rest behind tag is small deep s none =
    let stands : (earlier : List Value) → StandsInDer limit inner T earlier s.0 contents [] =
    λ earlier. subst (StandsInDer limit inner T earlier s.0 contents) none (s.1 earlier) in
    record {
      contained = s.0;
      inner = inner;
      stands = stands;
      string = λ rule left earlier passes.
          containing_stands limit left inner own rule T earlier s.0 octets contents rest tag is small deep
          (stands earlier) passes;
    }
