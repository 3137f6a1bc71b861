-- Members in DER, one after another.
use Rattle.std.proofs.Common.{◌≡◌, ◌∙◌, ◌+◌, ◌++◌, ◌-◌, ◌<◌, ◌≤◌, ◌∷◌, ◌⊎◌, ⊎_elim, Bool, List, [], ap, arith, cond, false, inl, inr, length, map, refl, subst, sym, take, true, ℕ}
use Rattle.std.proofs.lemmas.List.{length-append, take_at}
use Rattle.std.specs.Cmp.Lexicographic.{slice_cmp}
use Rattle.std.specs.Ordering.{is_lt, nat_cmp}
use Rattle.tlv_core.specs.Identifier.{IsTag, Tag}
use Rattle.x690.specs.DerTexts.{Ascends, arrange, der, der_element, der_texts, padded_less, texts_of}
use Rattle.x690.specs.Fitting.{Fits}
use Rattle.x690.specs.Layouts.{Constructed, LaidOut, RawTree}
use Rattle.x690.specs.Lists.{Each, Paired, join}
use Rattle.x690.specs.TypeTerms.{SequenceOfType, SetOfType, TypeTerm}
use Rattle.x690.specs.Values.{Sequence, SetOf, Value, members, values_of}
use Rattle.x690_laws.proofs.LengthsOfHeaders.{element_length, identifier_some}
use Rattle.x690_laws.proofs.LengthsOfTexts.{ders_values}
use Rattle.x690_laws.proofs.ReadingSound.{items_values}
use Rattle.x690_laws.proofs.TextOrder.{lt_nil}
use Rattle.x690_laws.proofs.TextsAsLayouts.{arrange_ascends, der_text, ders_texts}
use Rattle.x690_laws.proofs.TextsAsTrees.{members_raws, raws_of}
use Rattle.asn_elements.specs.InDer.{BeginsInDer}
use Rattle.asn_elements.proofs.ArrangedTexts.{IsText, not_less}
use Rattle.asn_elements.proofs.InDerTexts.{container_laid_out}
use Rattle.asn_elements.specs.MembersInDer.{AreMembers, AreOrderedMembers, MembersStand}

-- an element has some octets
text_some : (v : Value) → 1 ≤ length (der v)
text_some v =
    let t = der_text v in
    omega (arith, ap length t.is, element_length t.tag t.form t.contents, identifier_some t.tag t.form)

pub fewer : (limit left : ℕ) (T : TypeTerm) (octets rest : List ℕ) → BeginsInDer limit left T octets rest
    → length rest < length octets
fewer limit left T octets rest b =
    let s = b.1 [] in omega (arith, ap length s.is, length-append (der b.0) rest, text_some b.0)

-- one member before the others

pub no_members : (limit left : ℕ) (T : TypeTerm) → MembersStand limit left T [] []
no_members limit left T = record { is = refl; trees = []; laid_out = tt; fits = tt }

pub member_before : (limit left : ℕ) (T : TypeTerm) (octets rest : List ℕ) (values : List Value)
    → (b : BeginsInDer limit left T octets rest) → MembersStand limit left T values rest
    → MembersStand limit left T (b.0 ∷ values) octets
member_before limit left T octets rest values b m =
    let s = b.1 [] in
    record {
      is = s.is ∙ ap (λ z. der b.0 ++ z) m.is;
      trees = s.tree ∷ m.trees;
      laid_out = ((s.laid_out, s.depth_fits), m.laid_out);
      fits = (s.fits, m.fits);
    }

pub are_members : (limit left : ℕ) (T : TypeTerm) (octets rest : List ℕ) → BeginsInDer limit left T octets rest
    → AreMembers limit left T rest → AreMembers limit left T octets
are_members limit left T octets rest b m = (b.0 ∷ m.0, member_before limit left T octets rest m.0 b m.1)

-- in the order of SET OF

-- nothing, or the text of a value
abbrev pub NoneOrText : List ℕ → Type 0
NoneOrText text = (text ≡ []) ⊎ IsText text

-- what is to be shown of the octets follows from the members in the rest, if they go on with the order
abbrev pub GoesOn : ℕ → ℕ → TypeTerm → List ℕ → List ℕ → List ℕ → Type 0
GoesOn limit left T octets rest before =
    NoneOrText before
    × ((values : List Value) → MembersStand limit left T values rest → Ascends (before ∷ map der values)
    → AreOrderedMembers limit left T octets)

later : (texts : List (List ℕ)) → Ascends ([] ∷ texts) → Ascends texts
later [] a = tt
later (text ∷ texts) a = a.1

pub goes_on_first : (limit left : ℕ) (T : TypeTerm) (octets : List ℕ) → GoesOn limit left T octets octets []
goes_on_first limit left T octets = (inl refl, λ values m a. (values, m, later (map der values) a))

ascends_behind : (before text : List ℕ) → NoneOrText before → IsText text
    → is_lt (slice_cmp nat_cmp text before) ≡ false → padded_less text before ≡ false
ascends_behind before text known is h = ⊎_elim
    (λ none. ap (padded_less text) none ∙ lt_nil text)
    (λ some. not_less text before is some h)
    known

pub goes_on_next : (limit left : ℕ) (T : TypeTerm) (octets rest behind before text : List ℕ)
    → GoesOn limit left T octets rest before → BeginsInDer limit left T rest behind
    → text ≡ take (length rest - length behind) rest → is_lt (slice_cmp nat_cmp text before) ≡ false
    → GoesOn limit left T octets behind text
goes_on_next limit left T octets rest behind before text g b cut order =
    let v = b.0 in
    let s = b.1 [] in
    let many : length (der v) ≡ length rest - length behind =
    omega (arith, ap length s.is, length-append (der v) behind) in
    let same : text ≡ der v =
    cut ∙ ap (take (length rest - length behind)) s.is ∙ take_at (der v) behind (length rest - length behind) many in
    let less = ascends_behind before text g.0 (v, same) order in (
      inr (v, same),
      λ values m a.
          g.1 (v ∷ values) (member_before limit left T rest behind values b m)
          (subst (λ z. Ascends (before ∷ z ∷ map der values)) same (less, a)),
    )

pub goes_on_all : (limit left : ℕ) (T : TypeTerm) (octets before : List ℕ) → GoesOn limit left T octets [] before
    → AreOrderedMembers limit left T octets
goes_on_all limit left T octets before g = g.1 [] (no_members limit left T) tt

-- containers

at_least : (some : Bool) (contents : List ℕ) (values : List Value) → cond some 1 0 ≤ length contents
    → contents ≡ texts_of values → cond some 1 0 ≤ length values
at_least false contents values h e = omega arith
at_least true contents [] h e = absurd (omega (arith, ap length e))
at_least true contents (v ∷ values) h e = omega arith

paired_in_place : (R : RawTree → Value → Type 0) (trees : List RawTree) (values : List Value) → Each R trees values
    → Paired R trees values
paired_in_place R [] [] h = refl
paired_in_place R [] (v ∷ values) h = absurd h
paired_in_place R (t ∷ trees) [] h = absurd h
paired_in_place R (t ∷ trees) (v ∷ values) h =
    (v, values, inl (refl, refl), h.0, paired_in_place R trees values h.1)

module _ (limit left outer : ℕ) (own : Tag) (some : Bool) (T : TypeTerm) (octets contents rest : List ℕ)
    (tag : IsTag own) (is : octets ≡ der_element own true contents ++ rest) (small : length contents < 16777216)
    (deep : left + 1 ≡ outer) (least : cond some 1 0 ≤ length contents) where
  pub sequence_of_begins : AreMembers limit left T contents
      → BeginsInDer limit outer (SequenceOfType own (cond some 1 0) T) octets rest
  unfolding Fits der
  sequence_of_begins m =
      let values = m.0 in
      let s = m.1 in
      let text : der_element own true (join (map der values)) ≡ der (Sequence own (values_of values)) =
      ap (λ z. der_element own true (join z)) (sym (ders_values values)) in
      let laid = container_laid_out left own s.trees (map der values) tag
      (subst (λ z. length z < 16777216) s.is small) s.laid_out in
      let tree = Constructed own (raws_of s.trees) in
      let all = subst (λ z. Each (Fits limit T []) z (members (values_of values))) (sym (members_raws s.trees))
      (subst (Each (Fits limit T []) s.trees) (sym (items_values values)) s.fits) in
      let enough = subst (λ z. cond some 1 0 ≤ length z) (sym (items_values values))
      (at_least some contents values least s.is) in (
        Sequence own (values_of values),
        λ earlier. record {
          is = is ∙ ap (λ z. z ++ rest) (ap (der_element own true) s.is ∙ text);
          tree = tree;
          laid_out = subst (LaidOut tree) text laid.0;
          depth_fits = omega (arith, laid.1);
          fits = (raws_of s.trees, values_of values, refl, refl, enough, all);
        },
      )

  pub set_of_begins : AreOrderedMembers limit left T contents
      → BeginsInDer limit outer (SetOfType own (cond some 1 0) T) octets rest
  unfolding Fits der
  set_of_begins m =
      let values = m.0 in
      let s = m.1 in
      let texts = ders_values values in
      let ordered : arrange (der_texts (values_of values)) ≡ map der values =
      arrange_ascends (der_texts (values_of values)) (ders_texts (values_of values)) (subst Ascends (sym texts) m.2)
      ∙ texts in
      let text : der_element own true (join (map der values)) ≡ der (SetOf own (values_of values)) =
      ap (λ z. der_element own true (join z)) (sym ordered) in
      let laid = container_laid_out left own s.trees (map der values) tag
      (subst (λ z. length z < 16777216) s.is small) s.laid_out in
      let tree = Constructed own (raws_of s.trees) in
      let all = subst (λ z. Paired (Fits limit T []) z (members (values_of values))) (sym (members_raws s.trees))
      (subst (Paired (Fits limit T []) s.trees) (sym (items_values values))
      (paired_in_place (Fits limit T []) s.trees values s.fits)) in
      let enough = subst (λ z. cond some 1 0 ≤ length z) (sym (items_values values))
      (at_least some contents values least s.is) in (
        SetOf own (values_of values),
        λ earlier. record {
          is = is ∙ ap (λ z. z ++ rest) (ap (der_element own true) s.is ∙ text);
          tree = tree;
          laid_out = subst (LaidOut tree) text laid.0;
          depth_fits = omega (arith, laid.1);
          fits = (raws_of s.trees, values_of values, refl, refl, enough, all);
        },
      )
