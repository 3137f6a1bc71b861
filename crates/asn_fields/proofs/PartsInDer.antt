-- The first one of values whose texts in DER octets are.
use Rattle.std.proofs.Common.{◌≡◌, ◌∙◌, ◌++◌, ◌∷◌, Bool, List, [], ap, append-nil, append_assoc, arith, false, length, refl, subst, sym, true, ℕ}
use Rattle.std.proofs.lemmas.List.{length-append}
use Rattle.tlv_core.specs.Identifier.{Tag, identifier}
use Rattle.tlv_core.specs.Length.{shortest_length}
use Rattle.x690.specs.Contents.{LeafKind}
use Rattle.x690.specs.DerTexts.{der, der_element, der_texts, texts_of}
use Rattle.x690.specs.Fitting.{Fits, FitsFields}
use Rattle.x690.specs.Layouts.{RawTree}
use Rattle.x690.specs.Lists.{join}
use Rattle.x690.specs.TypeTerms.{Fields, LeafType, Required, Rule, RuledType, TypeTerm}
use Rattle.x690.specs.Values.{Leaf, Sequence, Value, Values, members}
use Rattle.x690_laws.proofs.LengthsOfHeaders.{identifier_some}
use Rattle.x690_laws.proofs.TextsAsLayouts.{der_text, ders_map, element_alone}
use Rattle.asn_elements.specs.InDer.{BeginsWithText}
use Rattle.asn_fields.specs.FieldsInDer.{AreFields}

-- a leaf stands first, and those after it fit the other fields
pub record LeafFirst (limit : ℕ) (own : Tag) (fields : Fields) (earlier values : List Value) : Type 0 where
  pub contents : List ℕ
  pub others : List Value
  pub trees : List RawTree
  pub is : values ≡ Leaf own contents ∷ others
  pub fit : FitsFields limit fields (earlier ++ (Leaf own contents ∷ [])) trees others

pub leaf_first : (limit : ℕ) (own : Tag) (kind : LeafKind) (fields : Fields) (earlier : List Value)
    (trees : List RawTree) (values : List Value)
    → FitsFields limit (Required (LeafType own kind) fields) earlier trees values
    → LeafFirst limit own fields earlier values
unfolding Fits
leaf_first limit own kind fields earlier trees values f = record {
  contents = f.6.1;
  others = f.3;
  trees = f.1;
  is = f.5 ∙ ap (λ v. v ∷ f.3) f.6.3;
  fit = subst (λ v. FitsFields limit fields (earlier ++ (v ∷ [])) f.1 f.3) f.6.3 f.7;
}

pub ruled_leaf_first : (limit : ℕ) (own : Tag) (rule : Rule) (kind : LeafKind) (fields : Fields)
    (earlier : List Value) (trees : List RawTree) (values : List Value)
    → FitsFields limit (Required (RuledType rule (LeafType own kind)) fields) earlier trees values
    → LeafFirst limit own fields earlier values
unfolding Fits
ruled_leaf_first limit own rule kind fields earlier trees values f = record {
  contents = f.6.1.1;
  others = f.3;
  trees = f.1;
  is = f.5 ∙ ap (λ v. v ∷ f.3) f.6.1.3;
  fit = subst (λ v. FitsFields limit fields (earlier ++ (v ∷ [])) f.1 f.3) f.6.1.3 f.7;
}

-- octets that begin with its text, and with an element

pub no_element : (t : Tag) (f : Bool) (c rest : List ℕ) → der_element t f c ++ rest ≡ [] → ⊥
unfolding der_element
no_element t f c rest e = absurd (omega (
  arith,
  ap length e,
  length-append (der_element t f c) rest,
  length-append (identifier t f) (shortest_length (length c) ++ c),
  identifier_some t f,
))

pub none_there : (v : Value) (vs : List Value) (behind : List ℕ) → texts_of (v ∷ vs) ++ behind ≡ [] → ⊥
none_there v vs behind e =
    let t = der_text v in
    no_element t.tag t.form t.contents (texts_of vs ++ behind)
    (ap (λ z. z ++ (texts_of vs ++ behind)) (sym t.is) ∙ sym (append_assoc (der v) (texts_of vs) behind) ∙ e)

first_behind : (v : Value) (vs : List Value) (octets behind : List ℕ) → octets ≡ texts_of (v ∷ vs) ++ behind
    → octets ≡ der v ++ (texts_of vs ++ behind)
first_behind v vs octets behind is = is ∙ append_assoc (der v) (texts_of vs) behind

pub leaf_split : (own tag : Tag) (c contents : List ℕ) (vs : List Value) (octets behind rest : List ℕ)
    → octets ≡ texts_of (Leaf own c ∷ vs) ++ behind → octets ≡ der_element tag false contents ++ rest
    → (c ≡ contents) × (texts_of vs ++ behind ≡ rest)
unfolding der
leaf_split own tag c contents vs octets behind rest is e =
    let same = element_alone own tag false false c contents (texts_of vs ++ behind) rest
    (sym (first_behind (Leaf own c) vs octets behind is) ∙ e) in
    (same.contents, same.rests)

pub sequence_split : (own tag : Tag) (ws : Values) (contents : List ℕ) (vs : List Value) (octets behind rest : List ℕ)
    → octets ≡ texts_of (Sequence own ws ∷ vs) ++ behind → octets ≡ der_element tag true contents ++ rest
    → (texts_of (members ws) ≡ contents) × (texts_of vs ++ behind ≡ rest)
unfolding der
sequence_split own tag ws contents vs octets behind rest is e =
    let same = element_alone own tag true true (join (der_texts ws)) contents (texts_of vs ++ behind) rest
    (sym (first_behind (Sequence own ws) vs octets behind is) ∙ e) in
    (sym (ap join (ders_map ws)) ∙ same.contents, same.rests)

-- by its tag another value doesn't stand there
pub tag_there : (own tag : Tag) (form : Bool) (ws : Values) (contents : List ℕ) (vs : List Value)
    (octets behind rest : List ℕ)
    → octets ≡ texts_of (Sequence own ws ∷ vs) ++ behind → octets ≡ der_element tag form contents ++ rest
    → own ≡ tag
unfolding der
tag_there own tag form ws contents vs octets behind rest is e =
    (element_alone own tag true form (join (der_texts ws)) contents (texts_of vs ++ behind) rest
    (sym (first_behind (Sequence own ws) vs octets behind is) ∙ e)).tags

-- a field that is due, by itself
pub only_field : (limit : ℕ) (T : TypeTerm) (fields : List Value) (octets behind : List ℕ)
    → AreFields limit (λ more. Required T more) fields octets behind
    → (v : Value) × (fields ≡ v ∷ []) × BeginsWithText limit T [] v octets behind
unfolding Fits
only_field limit T fields octets behind are =
    let f = are.2 in
    let one : fields ≡ f.2 ∷ [] = f.5 ∙ ap (λ z. f.2 ∷ z) f.7.1 in (
      f.2,
      one,
      (f.0, are.1 ∙ ap (λ z. texts_of z ++ behind) one ∙ ap (λ z. z ++ behind) (append-nil (der f.2)), f.6),
    )

-- a leaf by itself
pub leaf_alone : (limit : ℕ) (own tag : Tag) (kind : LeafKind) (earlier : List Value) (value : Value)
    (octets contents rest behind : List ℕ)
    → BeginsWithText limit (LeafType own kind) earlier value octets rest
    → octets ≡ der_element tag false contents ++ behind → value ≡ Leaf own contents
unfolding Fits
leaf_alone limit own tag kind earlier value octets contents rest behind b e =
    let c = b.2.1 in
    let is : value ≡ Leaf own c = b.2.3 in
    let s = leaf_split own tag c contents [] octets rest behind
    (b.1 ∙ ap (λ x. der x ++ rest) is ∙ ap (λ z. z ++ rest) (sym (append-nil (der (Leaf own c))))) e in
    is ∙ ap (Leaf own) s.0
