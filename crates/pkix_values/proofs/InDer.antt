-- Algorithms and keys in octets in DER.
use Rattle.std.proofs.Common.{◌≡◌, ◌∙◌, ◌++◌, ◌-◌, ◌==◌, ◌&&◌, ◌||◌, ◌∷◌, ◌⊎◌, ⊎_elim, Bool, List, None, Some, [], ap, arith, false, inl, inr, length, not, refl, subst, sym, true, ℕ}
use Rattle.std.proofs.lemmas.Bool.Decides.{nat_tests}
use Rattle.std.proofs.lemmas.List.{nil_from_length}
use Rattle.tlv_core.specs.Identifier.{Tag}
use Rattle.tlv_core.specs.declared.reason.Reason.TheVariants.{KeyLength, Parameters}
use Rattle.x690.specs.Contents.{BitString, Integer, ObjectIdentifier}
use Rattle.x690.specs.DerTexts.{arrange, der, der_element, der_texts, texts_of}
use Rattle.x690.specs.Fitting.{Fits}
use Rattle.x690.specs.Layouts.{universal}
use Rattle.x690.specs.Lists.{join, one_of}
use Rattle.x690.specs.TypeTerms.{EndOfFields, Fields, LeafType, OpenType, Optional, Required, TypeTerm}
use Rattle.x690.specs.UniversalTypes.{bit_string, object_identifier}
use Rattle.x690.specs.Values.{Leaf, Sequence, SetOf, Value, leaf_at, leaf_contents, members, value_tag, values_of}
use Rattle.x690_laws.proofs.ReadingSound.{items_values}
use Rattle.x690_laws.proofs.TextsAsLayouts.{element_alone}
use Rattle.pkix_definitions.specs.DocumentTypes.{AlgorithmIdentifier, version}
use Rattle.pkix_definitions.specs.Identifiers.{entry_under, rfc8410_algorithms, rfc8410_lengths}
use Rattle.pkix_definitions.specs.Paths.{first_field, version_0}
use Rattle.pkix_definitions.specs.Rules.{else_refused, has_length, key_bits_rule, leaf_is_one_of, no_unused, parameters_rule, version_rule}
use Rattle.asn_elements.specs.InDer.{BeginsWithText}
use Rattle.asn_fields.specs.FieldsInDer.{AreFields}
use Rattle.asn_fields.proofs.FieldsInDer.{sequence_fields}
use Rattle.asn_fields.proofs.PartsInDer.{leaf_alone, leaf_first, leaf_split, no_element, none_there, only_field, ruled_leaf_first}
use Rattle.pkix_values.specs.Values.{key_fits}

abbrev pub algorithm_types : Fields → Fields
algorithm_types more = Required object_identifier (Optional OpenType more)

-- the fields of an AlgorithmIdentifier
pub record AlgorithmParts (values : List Value) (octets behind : List ℕ) : Type 0 where
  pub algorithm : List ℕ
  pub more : List Value
  pub is : values ≡ Leaf (universal 6) algorithm ∷ more
  pub few : (more ≡ []) ⊎ ((v : Value) × (more ≡ v ∷ []))
  pub split : (tag : Tag) (contents rest : List ℕ) → octets ≡ der_element tag false contents ++ rest
      → (algorithm ≡ contents) × (texts_of more ++ behind ≡ rest)

pub algorithm_parts : (limit : ℕ) (values : List Value) (octets behind : List ℕ)
    → AreFields limit algorithm_types values octets behind → AlgorithmParts values octets behind
unfolding Fits
algorithm_parts limit values octets behind are =
    let f = leaf_first limit (universal 6) ObjectIdentifier (Optional OpenType EndOfFields) [] are.0 values are.2 in
    record {
      algorithm = f.contents;
      more = f.others;
      is = f.is;
      few = ⊎_elim (λ a. inl a.1.1) (λ b. inr (b.2, b.5 ∙ ap (λ z. b.2 ∷ z) b.8.1)) f.fit;
      split = λ tag contents rest e.
          leaf_split (universal 6) tag f.contents contents f.others octets behind rest
          (are.1 ∙ ap (λ z. texts_of z ++ behind) f.is) e;
    }

-- the rule on the parameters

bare : (algorithm : List ℕ) → parameters_rule [] (Sequence (universal 16) (values_of (Leaf (universal 6) algorithm ∷ [])))
    ≡ None
unfolding leaf_at
bare algorithm = go (one_of algorithm rfc8410_algorithms)
  where
    go : (b : Bool) → else_refused (not b || true) Parameters ≡ None
    go true = refl
    go false = refl

of_others : (algorithm : List ℕ) (more : List Value) → one_of algorithm rfc8410_algorithms ≡ false
    → parameters_rule [] (Sequence (universal 16) (values_of (Leaf (universal 6) algorithm ∷ more))) ≡ None
unfolding leaf_at
of_others algorithm more h =
    ap (λ b. else_refused (not b || (length (Leaf (universal 6) algorithm ∷ members (values_of more)) == 1)) Parameters) h

pub parameters_pass : (limit : ℕ) (values : List Value) (octets contents rest : List ℕ) (tag : Tag)
    → AreFields limit algorithm_types values octets [] → octets ≡ der_element tag false contents ++ rest
    → (length rest ≡ 0) ⊎ (one_of contents rfc8410_algorithms ≡ false)
    → parameters_rule [] (Sequence (universal 16) (values_of values)) ≡ None
parameters_pass limit values octets contents rest tag are e pass =
    let p = algorithm_parts limit values octets [] are in
    let s = p.split tag contents rest e in
    subst (λ vs. parameters_rule [] (Sequence (universal 16) (values_of vs)) ≡ None) (sym p.is)
    (⊎_elim
    (λ empty. ⊎_elim
    (λ none. subst (λ m. parameters_rule [] (Sequence (universal 16) (values_of (Leaf (universal 6) p.algorithm ∷ m)))
    ≡ None) (sym none) (bare p.algorithm))
    (λ one. absurd (none_there one.0 [] [] (ap (λ m. texts_of m ++ []) (sym one.1) ∙ s.1 ∙ nil_from_length rest empty)))
    p.few)
    (λ other. of_others p.algorithm p.more (ap (λ c. one_of c rfc8410_algorithms) s.0 ∙ other))
    pass)

-- the algorithm

pub algorithm_there : (limit : ℕ) (value : Value) (octets contents algorithm rest behind behind' : List ℕ) (tag own : Tag)
    → BeginsWithText limit AlgorithmIdentifier [] value octets rest
    → octets ≡ der_element tag true contents ++ behind → contents ≡ der_element own false algorithm ++ behind'
    → leaf_at (0 ∷ 0 ∷ []) (value ∷ []) ≡ algorithm
unfolding Fits AlgorithmIdentifier leaf_at
algorithm_there limit value octets contents algorithm rest behind behind' tag own b e e' =
    let f = sequence_fields limit (universal 16) tag algorithm_types value octets contents rest behind
    (b.0, b.1, b.2.1) e in
    let p = algorithm_parts limit f.0 contents [] f.2 in
    ap (λ v. leaf_at (0 ∷ 0 ∷ []) (v ∷ [])) (f.1 ∙ ap (λ vs. Sequence (universal 16) (values_of vs)) p.is)
    ∙ (p.split own algorithm behind' e').0

-- the rule on a key

pub of_other_algorithms : (algorithm key : List ℕ) → one_of algorithm rfc8410_algorithms ≡ false
    → key_fits algorithm key ≡ true
of_other_algorithms algorithm key h =
    ap (λ b. not b || (has_length (entry_under rfc8410_lengths algorithm) (length key - 1) && no_unused key)) h

pub of_its_length : (algorithm octets : List ℕ) (unused due : ℕ) → entry_under rfc8410_lengths algorithm ≡ Some due
    → length octets ≡ due → unused ≡ 0 → key_fits algorithm (unused ∷ octets) ≡ true
of_its_length algorithm octets unused due entry many none =
    ap (λ o. not (one_of algorithm rfc8410_algorithms)
    || (has_length o (length (unused ∷ octets) - 1) && no_unused (unused ∷ octets))) entry
    ∙ go (one_of algorithm rfc8410_algorithms)
  where
    go : (b : Bool) → (not b || ((due == (length (unused ∷ octets) - 1)) && (unused == 0))) ≡ true
    go b = grind (arith, nat_tests, many, none)

pub key_bits_pass : (limit : ℕ) (own tag : Tag) (path : List ℕ) (fields : List Value) (value : Value)
    (octets algorithm key rest rest' : List ℕ)
    → BeginsWithText limit (LeafType own BitString) fields value octets rest → leaf_at path fields ≡ algorithm
    → octets ≡ der_element tag false key ++ rest' → key_fits algorithm key ≡ true
    → key_bits_rule path fields value ≡ None
key_bits_pass limit own tag path fields value octets algorithm key rest rest' b names e h =
    ap (λ x. key_bits_rule path fields x) (leaf_alone limit own tag BitString fields value octets key rest rest' b e)
    ∙ ap (λ a. else_refused (key_fits a key) KeyLength) names
    ∙ ap (λ t. else_refused t KeyLength) h

pub key_passes : (limit : ℕ) (T : TypeTerm) (fields : List Value) (value : Value)
    (earlier octets algorithm key behind rest rest' : List ℕ) (tag : Tag)
    → AreFields limit (λ more. Required T more) fields earlier behind
    → BeginsWithText limit bit_string fields value octets rest
    → ((v : Value) → BeginsWithText limit T [] v earlier behind → leaf_at (0 ∷ 0 ∷ []) (v ∷ []) ≡ algorithm)
    → octets ≡ der_element tag false key ++ rest' → key_fits algorithm key ≡ true
    → key_bits_rule (0 ∷ 0 ∷ []) fields value ≡ None
key_passes limit T fields value earlier octets algorithm key behind rest rest' tag are b names e h =
    let f = only_field limit T fields earlier behind are in
    key_bits_pass limit (universal 3) tag (0 ∷ 0 ∷ []) fields value octets algorithm key rest rest' b
    (ap (leaf_at (0 ∷ 0 ∷ [])) f.1 ∙ names f.0 f.2) e h

-- a version that stands first

pub version_first : (limit : ℕ) (allowed : List (List ℕ)) (tail : Fields → Fields) (values : List Value)
    (octets contents rest behind : List ℕ) (tag : Tag)
    → AreFields limit (λ more. Required (version allowed) (tail more)) values octets behind
    → octets ≡ der_element tag false contents ++ rest → leaf_at first_field values ≡ contents
unfolding leaf_at
version_first limit allowed tail values octets contents rest behind tag are e =
    let v = ruled_leaf_first limit (universal 2) (version_rule allowed) Integer (tail EndOfFields) [] are.0 values are.2 in
    let s = leaf_split (universal 2) tag v.contents contents v.others octets behind rest
    (are.1 ∙ ap (λ z. texts_of z ++ behind) v.is) e in
    ap (leaf_at first_field) v.is ∙ s.0

-- The members of a SEQUENCE whose fields begin with version 0 do so, too.
pub version_0_first : (limit : ℕ) (allowed : List (List ℕ)) (tail : Fields → Fields) (values : List Value)
    (octets contents rest behind : List ℕ) (tag : Tag)
    → AreFields limit (λ more. Required (version allowed) (tail more)) values octets behind
    → octets ≡ der_element tag false contents ++ rest → one_of contents (version_0 ∷ []) ≡ true
    → leaf_is_one_of first_field (version_0 ∷ []) (members (values_of values)) ≡ true
version_0_first limit allowed tail values octets contents rest behind tag are e zero =
    ap (leaf_is_one_of first_field (version_0 ∷ [])) (items_values values)
    ∙ ap (λ c. one_of c (version_0 ∷ []))
    (version_first limit allowed tail values octets contents rest behind tag are e)
    ∙ zero

-- values, by the element that their texts begin with

pub record FirstOf (tag : Tag) (values : List Value) (rest : List ℕ) : Type 0 where
  pub value : Value
  pub others : List Value
  pub is : values ≡ value ∷ others
  pub tagged : value_tag value ≡ tag
  pub behind : rest ≡ texts_of others

pub first_of : (tag : Tag) (form : Bool) (contents rest octets : List ℕ) (values : List Value)
    → octets ≡ texts_of values → octets ≡ der_element tag form contents ++ rest → FirstOf tag values rest
unfolding der
first_of tag form contents rest octets [] is e = absurd (no_element tag form contents rest (sym e ∙ is))
first_of tag form contents rest octets (Leaf own c ∷ vs) is e =
    let same = element_alone own tag false form c contents (texts_of vs) rest (sym is ∙ e) in
    record { value = Leaf own c; others = vs; is = refl; tagged = same.tags; behind = sym same.rests }
first_of tag form contents rest octets (Sequence own ws ∷ vs) is e =
    let same = element_alone own tag true form (join (der_texts ws)) contents (texts_of vs) rest (sym is ∙ e) in
    record { value = Sequence own ws; others = vs; is = refl; tagged = same.tags; behind = sym same.rests }
first_of tag form contents rest octets (SetOf own ws ∷ vs) is e =
    let same = element_alone own tag true form (join (arrange (der_texts ws))) contents (texts_of vs) rest (sym is ∙ e) in
    record { value = SetOf own ws; others = vs; is = refl; tagged = same.tags; behind = sym same.rests }

pub oid_there : (limit : ℕ) (value : Value) (octets contents rest behind : List ℕ) (tag : Tag)
    → BeginsWithText limit object_identifier [] value octets rest → octets ≡ der_element tag false contents ++ behind
    → leaf_at (0 ∷ []) (value ∷ []) ≡ contents
unfolding leaf_at
oid_there limit value octets contents rest behind tag b e =
    ap leaf_contents (leaf_alone limit (universal 6) tag ObjectIdentifier [] value octets contents rest behind b e)
