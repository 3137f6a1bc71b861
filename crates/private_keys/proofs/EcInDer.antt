-- The parts of an ECPrivateKey in octets in DER.
use Rattle.std.proofs.Common.{◌≡◌, ◌∙◌, ◌++◌, ◌<◌, ◌∷◌, ◌⊎◌, ⊎_elim, List, None, [], ap, append-nil, arith, false, get_or, inl, inr, length, refl, subst, sym, true, ℕ}
use Rattle.tlv_core.specs.Identifier.{Tag, identifier}
use Rattle.tlv_core.specs.declared.reason.Reason.TheVariants.{KeyLength}
use Rattle.x690.specs.Contents.{Integer, OctetString, ObjectIdentifier}
use Rattle.x690.specs.DerTexts.{der, der_element, texts_of}
use Rattle.x690.specs.Fitting.{Fits, FitsFields}
use Rattle.x690.specs.Layouts.{context_specific, member_trees, universal}
use Rattle.x690.specs.TypeTerms.{EndOfFields, Optional, Required}
use Rattle.x690.specs.UniversalTypes.{bit_string, explicit, object_identifier, octet_string}
use Rattle.x690.specs.Values.{Leaf, Sequence, Value, Values, leaf_at, members, sequence_members, values_of}
use Rattle.pkix_definitions.specs.Identifiers.{curve_lengths, entry_under}
use Rattle.pkix_definitions.specs.Paths.{version_1}
use Rattle.pkix_definitions.specs.Rules.{ec_rule, else_refused, has_length, own_curve, version_rule}
use Rattle.asn_fields.specs.FieldsInDer.{AreFields}
use Rattle.asn_fields.proofs.PartsInDer.{leaf_first, leaf_split, no_element, ruled_leaf_first, sequence_split, tag_there}
use Rattle.private_keys.specs.EcInDer.{HasParts, NamesCurve, ec_types}

-- the fields after the key: parameters that name this curve, or none

record Named (more : List Value) : Type 0 where
  pub curve : List ℕ
  pub inside : Values
  pub others : List Value
  pub is : more ≡ Sequence (context_specific 0) inside ∷ others
  pub one : members inside ≡ Leaf (universal 6) curve ∷ []

abbrev Unnamed : List Value → Type 0
Unnamed more = (more ≡ []) ⊎ ((ws : Values) × (more ≡ Sequence (context_specific 1) ws ∷ []))

behind_parameters : (limit : ℕ) (earlier : List Value) (trees : _) (more : List Value)
    → FitsFields limit (Optional (explicit 1 bit_string) EndOfFields) earlier trees more → Unnamed more
unfolding Fits
behind_parameters limit earlier trees more f =
    ⊎_elim (λ a. inl a.1.1)
    (λ b.
    inr (b.7.1, b.5 ∙ ap (λ v. v ∷ b.3) b.7.3 ∙ ap (λ z. Sequence (context_specific 1) b.7.1 ∷ z) b.8.1)) f

behind_key : (limit : ℕ) (earlier : List Value) (trees : _) (more : List Value)
    → FitsFields limit (Optional (explicit 0 object_identifier) (Optional (explicit 1 bit_string) EndOfFields)) earlier
    trees more
    → Named more ⊎ Unnamed more
unfolding Fits
behind_key limit earlier trees more f = ⊎_elim
    (λ a. inr (behind_parameters limit earlier trees more a.1))
    (λ b.
    let o = leaf_first limit (universal 6) ObjectIdentifier EndOfFields [] (member_trees b.7.0) (members b.7.1)
    b.7.4 in
    inl record {
      curve = o.contents;
      inside = b.7.1;
      others = b.3;
      is = b.5 ∙ ap (λ v. v ∷ b.3) b.7.3;
      one = o.is ∙ ap (λ z. Leaf (universal 6) o.contents ∷ z) o.fit.1;
    })
    f

-- what they name

own_of_named : (number key curve : List ℕ) (inside : Values) (others : List Value)
    → members inside ≡ Leaf (universal 6) curve ∷ []
    → own_curve (Sequence (universal 16) (values_of (Leaf (universal 2) number ∷ Leaf (universal 4) key
    ∷ Sequence (context_specific 0) inside ∷ others)))
    ≡ curve
unfolding leaf_at
own_of_named number key curve inside others one = ap (leaf_at (0 ∷ [])) one

begins_160 : (inside : Values) (others : List Value) (octets : List ℕ)
    → octets ≡ texts_of (Sequence (context_specific 0) inside ∷ others) ++ [] → get_or octets 0 0 ≡ 160
unfolding der der_element identifier
begins_160 inside others octets e = ap (λ z. get_or z 0 0) e

curve_of_named : (number key octets curve : List ℕ) (more : List Value) → Named more
    → octets ≡ texts_of more ++ [] → NamesCurve octets curve
    → own_curve (Sequence (universal 16) (values_of (Leaf (universal 2) number ∷ Leaf (universal 4) key ∷ more)))
    ≡ curve
curve_of_named number key octets curve more n is names =
    let is' : octets ≡ texts_of (Sequence (context_specific 0) n.inside ∷ n.others) ++ [] =
    is ∙ ap (λ z. texts_of z ++ []) n.is in
    ap (λ z. own_curve (Sequence (universal 16) (values_of (Leaf (universal 2) number ∷ Leaf (universal 4) key ∷ z))))
    n.is
    ∙ own_of_named number key n.curve n.inside n.others n.one
    ∙ ⊎_elim
    (λ a.
    let inner = sequence_split (context_specific 0) (context_specific 0) n.inside a.0 n.others octets [] a.1 is' a.3 in
    (leaf_split (universal 6) (universal 6) n.curve curve [] a.0 [] a.2
    (sym inner.0 ∙ ap texts_of n.one ∙ sym (append-nil (texts_of (Leaf (universal 6) n.curve ∷ [])))) a.4).0)
    (λ b. absurd (b.1 (begins_160 n.inside n.others octets is')))
    names

abbrev number_of : Tag → ℕ
number_of t = t.number

differ : (n m : ℕ) → n ≡ m → n < m → ⊥
differ n m e less = absurd (omega (arith, e, less))

tags_differ : context_specific 1 ≡ context_specific 0 → ⊥
tags_differ e = differ 0 1 (sym (ap number_of e)) (omega arith)

curve_of_unnamed : (number key octets curve : List ℕ) (more : List Value) → Unnamed more
    → octets ≡ texts_of more ++ [] → NamesCurve octets curve
    → own_curve (Sequence (universal 16) (values_of (Leaf (universal 2) number ∷ Leaf (universal 4) key ∷ more)))
    ≡ curve
unfolding leaf_at
curve_of_unnamed number key octets curve more (inl none) is names =
    ap (λ z. own_curve (Sequence (universal 16) (values_of (Leaf (universal 2) number ∷ Leaf (universal 4) key ∷ z))))
    none
    ∙ ⊎_elim
    (λ a. absurd (no_element (context_specific 0) true a.0 a.1 (sym a.3 ∙ is ∙ ap (λ z. texts_of z ++ []) none)))
    (λ b. sym b.0)
    names
curve_of_unnamed number key octets curve more (inr one) is names =
    ap (λ z. own_curve (Sequence (universal 16) (values_of (Leaf (universal 2) number ∷ Leaf (universal 4) key ∷ z))))
    one.1
    ∙ ⊎_elim
    (λ a. absurd (tags_differ (tag_there (context_specific 1) (context_specific 0) true one.0 a.0 [] octets [] a.1
    (is ∙ ap (λ z. texts_of z ++ []) one.1) a.3)))
    (λ b. sym b.0)
    names

-- the key and the curve

key_is : (number key : List ℕ) (more : List Value)
    → leaf_at (1 ∷ []) (members (values_of (Leaf (universal 2) number ∷ Leaf (universal 4) key ∷ more))) ≡ key
unfolding leaf_at
key_is number key more = refl

pub parts_there : (limit : ℕ) (values : List Value) (octets number key curve behind rest : List ℕ) (tag own : Tag)
    → AreFields limit ec_types values octets [] → octets ≡ der_element tag false number ++ behind
    → behind ≡ der_element own false key ++ rest → NamesCurve rest curve
    → HasParts (Sequence (universal 16) (values_of values)) key curve
parts_there limit values octets number key curve behind rest tag own are e e' names =
    let v = ruled_leaf_first limit (universal 2) (version_rule (version_1 ∷ [])) Integer
    (Required octet_string (Optional (explicit 0 object_identifier) (Optional (explicit 1 bit_string) EndOfFields))) []
    are.0 values are.2 in
    let k = leaf_first limit (universal 4) OctetString
    (Optional (explicit 0 object_identifier) (Optional (explicit 1 bit_string) EndOfFields))
    ([] ++ (Leaf (universal 2) v.contents ∷ [])) v.trees v.others v.fit in
    let is : values ≡ Leaf (universal 2) v.contents ∷ Leaf (universal 4) k.contents ∷ k.others =
    v.is ∙ ap (λ z. Leaf (universal 2) v.contents ∷ z) k.is in
    let first = leaf_split (universal 2) tag v.contents number v.others octets [] behind
    (are.1 ∙ ap (λ z. texts_of z ++ []) v.is) e in
    let second = leaf_split (universal 4) own k.contents key k.others behind [] rest
    (sym first.1 ∙ ap (λ z. texts_of z ++ []) k.is) e' in (
      ap (λ z. leaf_at (1 ∷ []) (members (values_of z))) is ∙ key_is v.contents k.contents k.others ∙ second.0,
      ap (λ z. own_curve (Sequence (universal 16) (values_of z))) is
          ∙ ⊎_elim
          (λ n. curve_of_named v.contents k.contents rest curve k.others n (sym second.1) names)
          (λ u. curve_of_unnamed v.contents k.contents rest curve k.others u (sym second.1) names)
          (behind_key limit _ k.trees k.others k.fit),
    )

-- the rule on them

pub ec_passes : (value : Value) (key curve : List ℕ) → HasParts value key curve
    → has_length (entry_under curve_lengths curve) (length key) ≡ true → ec_rule [] value ≡ None
ec_passes value key curve parts h =
    ap (λ c. else_refused (has_length (entry_under curve_lengths c) (length (leaf_at (1 ∷ []) (sequence_members value))))
    KeyLength) parts.1
    ∙ ap (λ k. else_refused (has_length (entry_under curve_lengths curve) (length k)) KeyLength) parts.0
    ∙ ap (λ b. else_refused b KeyLength) h
