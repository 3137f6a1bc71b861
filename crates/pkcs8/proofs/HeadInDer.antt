-- version and privateKeyAlgorithm of a OneAsymmetricKey, in octets in DER.
use Rattle.std.proofs.Common.{◌≡◌, ◌∙◌, ◌++◌, ◌-◌, ◌≤◌, ◌==◌, ◌||◌, ◌∷◌, ◌⊎◌, ⊎_elim, Bool, List, None, Option, [], ap, ap₂, append_assoc, arith, drop, false, get_or, length, not, refl, subst, sym, take, true, ℕ}
use Rattle.std.proofs.lemmas.List.{take_rest}
use Rattle.tlv_core.specs.Identifier.{Tag, identifier}
use Rattle.tlv_core.specs.Length.{shortest_length}
use Rattle.tlv_core.specs.declared.reason.Reason.TheVariants.{Curve, KeyLength, Parameters}
use Rattle.tlv_core.specs.declared.reason.Reason.{Reason}
use Rattle.x690.specs.Contents.{Integer, OctetString}
use Rattle.x690.specs.DerTexts.{arrange, der, der_element, der_texts, texts_of}
use Rattle.x690.specs.Fitting.{Fits, FitsFields}
use Rattle.x690.specs.Layouts.{universal}
use Rattle.x690.specs.Lists.{join, one_of, same_octets}
use Rattle.x690.specs.TypeTerms.{Fields, Required, RuledType}
use Rattle.x690.specs.UniversalTypes.{octet_string}
use Rattle.x690.specs.Values.{Leaf, Sequence, SetOf, Value, leaf_at, leaf_contents, members, sequence_members, values_of}
use Rattle.x690_laws.proofs.TextsAsLayouts.{element_alone}
use Rattle.pkix_definitions.specs.DocumentTypes.{AlgorithmIdentifier, ECPrivateKey}
use Rattle.pkix_definitions.specs.Identifiers.{curve_lengths, ec_public_key, entry_under, rfc8410_lengths}
use Rattle.pkix_definitions.specs.Paths.{curve_of_key, version_0, version_1}
use Rattle.pkix_definitions.specs.Rules.{container_curve, ec_parameters_rule, else_refused, has_length, inner_curve_rule, inner_ec_rule, nth_is_identifier, version_rule}
use Rattle.asn_elements.specs.InDer.{BeginsWithText}
use Rattle.asn_fields.specs.FieldsInDer.{AreFields}
use Rattle.asn_fields.proofs.FieldsInDer.{sequence_fields}
use Rattle.asn_fields.proofs.PartsInDer.{leaf_alone, leaf_split, no_element, ruled_leaf_first}
use Rattle.pkix_values.proofs.InDer.{algorithm_parts, algorithm_types}
use Rattle.private_keys.specs.EcInDer.{HasParts, ec_types}
use Rattle.pkcs8.specs.HeadInDer.{HasHead, key_types}

-- a value whose text begins as an OBJECT IDENTIFIER is one

leaf_there : (v : Value) (t : Tag) (c rest behind : List ℕ) → der v ++ behind ≡ der_element t false c ++ rest
    → v ≡ Leaf t c
unfolding der
leaf_there (Leaf u d) t c rest behind e =
    let same = element_alone u t false false d c behind rest e in
    ap (λ x. Leaf x d) same.tags ∙ ap (Leaf t) same.contents
leaf_there (Sequence u vs) t c rest behind e =
    let same = element_alone u t true false (join (der_texts vs)) c behind rest e in
    let forms : true ≡ false = same.forms in cc
leaf_there (SetOf u vs) t c rest behind e =
    let same = element_alone u t true false (join (arrange (der_texts vs))) c behind rest e in
    let forms : true ≡ false = same.forms in cc

second_there : (algorithm identifier rest : List ℕ) (more : List Value) (t : Tag)
    → (more ≡ []) ⊎ ((v : Value) × (more ≡ v ∷ []))
    → texts_of more ++ [] ≡ der_element t false identifier ++ rest → more ≡ Leaf t identifier ∷ []
second_there algorithm identifier rest more t few e = ⊎_elim
    (λ none. absurd (no_element t false identifier rest (sym e ∙ ap (λ m. texts_of m ++ []) none)))
    (λ one.
    one.1
    ∙ ap (λ v. v ∷ []) (leaf_there one.0 t identifier rest ([] ++ [])
    (sym (append_assoc (der one.0) [] []) ∙ ap (λ m. texts_of m ++ []) (sym one.1) ∙ e)))
    few

-- the rule on the parameters in keys

other_algorithm : (algorithm : List ℕ) (more : List Value) → one_of algorithm (ec_public_key ∷ []) ≡ false
    → ec_parameters_rule [] (Sequence (universal 16) (values_of (Leaf (universal 6) algorithm ∷ more))) ≡ None
unfolding leaf_at
other_algorithm algorithm more h =
    ap (λ b. else_refused (not b || nth_is_identifier 1 (Leaf (universal 6) algorithm ∷ members (values_of more)))
    Parameters) h

named_curve : (algorithm identifier : List ℕ)
    → ec_parameters_rule []
    (Sequence (universal 16) (values_of (Leaf (universal 6) algorithm ∷ Leaf (universal 6) identifier ∷ []))) ≡ None
unfolding leaf_at
named_curve algorithm identifier = go (one_of algorithm (ec_public_key ∷ []))
  where
    go : (b : Bool) → else_refused (not b || true) Parameters ≡ None
    go true = refl
    go false = refl

algorithm_fields : (limit : ℕ) (value : Value) (octets contents rest behind : List ℕ) (tag : Tag)
    → BeginsWithText limit AlgorithmIdentifier [] value octets rest → octets ≡ der_element tag true contents ++ behind
    → (values : List Value) × (value ≡ Sequence (universal 16) (values_of values))
    × AreFields limit algorithm_types values contents []
unfolding Fits AlgorithmIdentifier
algorithm_fields limit value octets contents rest behind tag b e =
    sequence_fields limit (universal 16) tag algorithm_types value octets contents rest behind (b.0, b.1, b.2.1) e

pub parameters_pass : (limit : ℕ) (value : Value) (octets contents algorithm parameters rest behind : List ℕ)
    (tag own : Tag)
    → BeginsWithText limit AlgorithmIdentifier [] value octets rest
    → octets ≡ der_element tag true contents ++ behind → contents ≡ der_element own false algorithm ++ parameters
    → (one_of algorithm (ec_public_key ∷ []) ≡ false)
    ⊎ ((identifier : List ℕ) × (after : List ℕ) × (parameters ≡ der_element (universal 6) false identifier ++ after))
    → ec_parameters_rule [] value ≡ None
parameters_pass limit value octets contents algorithm parameters rest behind tag own b e e' pass =
    let f = algorithm_fields limit value octets contents rest behind tag b e in
    let p = algorithm_parts limit f.0 contents [] f.2 in
    let s = p.split own algorithm parameters e' in
    ap (ec_parameters_rule []) (f.1 ∙ ap (λ vs. Sequence (universal 16) (values_of vs)) p.is)
    ∙ ⊎_elim
    (λ other. other_algorithm p.algorithm p.more (ap (λ a. one_of a (ec_public_key ∷ [])) s.0 ∙ other))
    (λ named.
    ap (λ m. ec_parameters_rule [] (Sequence (universal 16) (values_of (Leaf (universal 6) p.algorithm ∷ m))))
    (second_there p.algorithm named.0 named.1 p.more (universal 6) p.few (s.1 ∙ named.2))
    ∙ named_curve p.algorithm named.0)
    pass

-- the head

pub version_stands : (octets : List ℕ) → 3 ≤ length octets → get_or octets 0 0 ≡ 2 → get_or octets 1 0 ≡ 1
    → octets ≡ der_element (universal 2) false (take 1 (drop 2 octets)) ++ take (length octets - 3) (drop 3 octets)
unfolding der_element identifier shortest_length
version_stands [] some first second = absurd (omega arith)
version_stands (x ∷ []) some first second = absurd (omega arith)
version_stands (x ∷ y ∷ []) some first second = absurd (omega arith)
version_stands (x ∷ y ∷ z ∷ octets) some first second =
    let rest : take (length (x ∷ y ∷ z ∷ octets) - 3) (drop 3 (x ∷ y ∷ z ∷ octets)) ≡ octets =
    take_rest (x ∷ y ∷ z ∷ octets) 3 in
    ap₂ (λ a b. a ∷ b ∷ z ∷ octets) first second
    ∙ sym (ap (λ r. der_element (universal 2) false (z ∷ []) ++ r) rest)

head_of : (number algorithm : List ℕ) (more others : List Value) (identifier : List ℕ)
    → more ≡ Leaf (universal 6) identifier ∷ []
    → leaf_at (1 ∷ 1 ∷ []) (Leaf (universal 2) number
    ∷ Sequence (universal 16) (values_of (Leaf (universal 6) algorithm ∷ more)) ∷ others) ≡ identifier
unfolding leaf_at
head_of number algorithm more others identifier one =
    ap (λ m. leaf_at (0 ∷ []) (members (values_of m))) one

first_leaf : (number : List ℕ) (others : List Value) → leaf_at (0 ∷ []) (Leaf (universal 2) number ∷ others) ≡ number
unfolding leaf_at
first_leaf number others = refl

second_leaf : (number algorithm : List ℕ) (more others : List Value)
    → leaf_at (1 ∷ 0 ∷ []) (Leaf (universal 2) number
    ∷ Sequence (universal 16) (values_of (Leaf (universal 6) algorithm ∷ more)) ∷ others) ≡ algorithm
unfolding leaf_at
second_leaf number algorithm more others = refl

-- the algorithm stands second
record AlgorithmNext (limit : ℕ) (values : List Value) : Type 0 where
  pub value : Value
  pub others : List Value
  pub is : values ≡ value ∷ others
  pub begins : (octets rest : List ℕ) → octets ≡ texts_of values ++ rest
      → BeginsWithText limit AlgorithmIdentifier [] value octets (texts_of others ++ rest)

algorithm_next : (limit : ℕ) (more : Fields) (earlier : List Value) (trees : _) (values : List Value)
    → FitsFields limit (Required (RuledType ec_parameters_rule AlgorithmIdentifier) more) earlier trees values
    → AlgorithmNext limit values
unfolding Fits AlgorithmIdentifier
algorithm_next limit more earlier trees values f = record {
  value = f.2;
  others = f.3;
  is = f.5;
  begins = λ octets rest e. (
    f.0,
    e ∙ ap (λ z. texts_of z ++ rest) f.5 ∙ append_assoc (der f.2) (texts_of f.3) rest,
    f.6.1,
  );
}

pub head_there : (limit : ℕ) (more : Fields) (fields : List Value)
    (octets number behind contents after algorithm parameters rest : List ℕ) (tag own inner : Tag)
    → AreFields limit (λ end. key_types more) fields octets rest
    → octets ≡ der_element tag false number ++ behind → behind ≡ der_element own true contents ++ after
    → contents ≡ der_element inner false algorithm ++ parameters
    → HasHead fields number algorithm parameters
head_there limit more fields octets number behind contents after algorithm parameters rest tag own inner are e e' e'' =
    let v = ruled_leaf_first limit (universal 2) (version_rule (version_0 ∷ version_1 ∷ [])) Integer
    (Required (RuledType ec_parameters_rule AlgorithmIdentifier) more) [] are.0 fields are.2 in
    let s = leaf_split (universal 2) tag v.contents number v.others octets rest behind
    (are.1 ∙ ap (λ z. texts_of z ++ rest) v.is) e in
    let a = algorithm_next limit more _ v.trees v.others v.fit in
    let f = algorithm_fields limit a.value behind contents (texts_of a.others ++ rest) after own
    (a.begins behind rest (sym s.1)) e' in
    let p = algorithm_parts limit f.0 contents [] f.2 in
    let t = p.split inner algorithm parameters e'' in
    let is : fields ≡ Leaf (universal 2) v.contents
    ∷ Sequence (universal 16) (values_of (Leaf (universal 6) p.algorithm ∷ p.more)) ∷ a.others =
    v.is ∙ ap (λ z. Leaf (universal 2) v.contents ∷ z)
    (a.is ∙ ap (λ x. x ∷ a.others) (f.1 ∙ ap (λ vs. Sequence (universal 16) (values_of vs)) p.is)) in (
      ap (leaf_at (0 ∷ [])) is ∙ first_leaf v.contents _ ∙ s.0,
      ap (leaf_at (1 ∷ 0 ∷ [])) is ∙ second_leaf v.contents p.algorithm p.more a.others ∙ t.0,
      λ identifier left named.
          ap (leaf_at (1 ∷ 1 ∷ [])) is
          ∙ head_of v.contents p.algorithm p.more a.others identifier
          (second_there p.algorithm identifier left p.more (universal 6) p.few (t.1 ∙ named)),
    )

pub curve_there : (fields : List Value) (number algorithm parameters identifier rest : List ℕ)
    → HasHead fields number algorithm parameters → one_of algorithm (ec_public_key ∷ []) ≡ true
    → parameters ≡ der_element (universal 6) false identifier ++ rest → container_curve fields ≡ identifier
curve_there fields number algorithm parameters identifier rest head ec named =
    ap (λ b. elim b [ true ↦ leaf_at curve_of_key fields | false ↦ [] ])
    (ap (λ a. one_of a (ec_public_key ∷ [])) head.1 ∙ ec)
    ∙ head.2 identifier rest named

-- the rules on what is contained

pub ec_parts : (limit : ℕ) (earlier : List Value) (value : Value) (octets contents key own rest behind : List ℕ)
    (tag : Tag)
    → BeginsWithText limit ECPrivateKey earlier value octets rest → octets ≡ der_element tag true contents ++ behind
    → ((values : List Value) → AreFields limit ec_types values contents []
    → HasParts (Sequence (universal 16) (values_of values)) key own)
    → HasParts value key own
unfolding Fits ECPrivateKey
ec_parts limit earlier value octets contents key own rest behind tag b e parts =
    let f = sequence_fields limit (universal 16) tag ec_types value octets contents rest behind (b.0, b.1, b.2.1) e in
    subst (λ v. HasParts v key own) (sym f.1) (parts f.0 f.2)

inner_is : List ℕ → List ℕ → List ℕ → Bool → Option Reason
inner_is own due key none = elim none [
  | false ↦ else_refused (same_octets own due) Curve
  | true ↦ else_refused (has_length (entry_under curve_lengths due) (length key)) KeyLength
]

pub inner_ec_passes : (earlier : List Value) (value : Value) (key own due : List ℕ) → HasParts value key own
    → container_curve earlier ≡ due
    → (((length own == 0) ≡ true) × (has_length (entry_under curve_lengths due) (length key) ≡ true))
    ⊎ (((length own == 0) ≡ false) × (same_octets own due ≡ true))
    → inner_ec_rule earlier value ≡ None
unfolding leaf_at inner_is
inner_ec_passes earlier value key own due parts curve pass =
    ap (λ o. inner_is o (container_curve earlier) (leaf_at (1 ∷ []) (sequence_members value)) (length o == 0)) parts.1
    ∙ ap (λ d. inner_is own d (leaf_at (1 ∷ []) (sequence_members value)) (length own == 0)) curve
    ∙ ap (λ k. inner_is own due k (length own == 0)) parts.0
    ∙ ⊎_elim
    (λ a. ap (inner_is own due key) a.0 ∙ ap (λ b. else_refused b KeyLength) a.1)
    (λ b. ap (inner_is own due key) b.0 ∙ ap (λ b. else_refused b Curve) b.1)
    pass

pub inner_curve_passes : (limit : ℕ) (fields : List Value) (value : Value)
    (number algorithm parameters octets key rest behind : List ℕ) (tag : Tag)
    → HasHead fields number algorithm parameters → BeginsWithText limit octet_string fields value octets rest
    → octets ≡ der_element tag false key ++ behind
    → has_length (entry_under rfc8410_lengths algorithm) (length key) ≡ true → inner_curve_rule fields value ≡ None
inner_curve_passes limit fields value number algorithm parameters octets key rest behind tag head b e h =
    ap (λ a. else_refused (has_length (entry_under rfc8410_lengths a) (length (leaf_contents value))) KeyLength) head.1
    ∙ ap (λ x. else_refused (has_length (entry_under rfc8410_lengths algorithm) (length (leaf_contents x))) KeyLength)
    (leaf_alone limit (universal 4) tag OctetString fields value octets key rest behind b e)
    ∙ ap (λ t. else_refused t KeyLength) h
