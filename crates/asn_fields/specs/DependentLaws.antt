-- Fields with one after them that depends on them are told apart by their texts.
use Rattle.std.proofs.Common.{◌≡◌, ◌∙◌, ◌+◌, ◌++◌, ◌&&◌, ◌∷◌, Bool, List, None, Option, Some, [], append_assoc, ap, false, map, subst, sym, true, ℕ}
use Rattle.std.specs.Option.{option_map}
use Rattle.x690.specs.DerTexts.{der}
use Rattle.x690.specs.Lists.{Each, one_of}
use Rattle.x690.specs.TypeTerms.{Optional, Required, TypeTerm}
use Rattle.x690.specs.Values.{Same, Value, leaf_at, value_tag}
use Rattle.x690_laws.proofs.ValuesOfTrees.{leaf_at_same}
use Rattle.asn_elements.proofs.SameMembers.{each_last}
use Rattle.asn_fields.specs.FieldReadings.{with_field}
use Rattle.asn_fields.specs.Apart.{Begins, BeginsAsTyped, Tells, fits_one, may_begin}
use Rattle.asn_fields.specs.ApartLaws.{OneField, and_first, and_second, each_both, either_of, optional_begins, optional_tells}
use Rattle.asn_fields.specs.declared.either.Either.{Either}
use Rattle.asn_fields.specs.declared.either.Either.TheVariants.{First, Second}
use Rattle.asn_fields.specs.Listings.{Listing}
use Rattle.asn_fields.specs.Dependents.{OneTextBehind, suits_as, suits_where_there}

-- Fields, and one that is due after them and suits them.
module _ {A B : Type 0} {values : A → List Value} (of : Listing values) (value : B → Value) (T : TypeTerm)
    (suits : List Value → B → Bool) (one : OneTextBehind value suits) where
  abbrev pub Suited : Type 0
  Suited = (a : A) × (b : B) × (suits (values a) b ≡ true)

  pub dependent_begin : BeginsAsTyped {A = Suited} (λ x. of.known x.0 && may_begin T (value_tag (value x.1)))
      (λ rest. of.types (Required T rest)) (λ x. values x.0 ++ (value x.1 ∷ []))
  dependent_begin x rest vs h b =
      subst (Begins (of.types (Required T rest))) (sym (append_assoc (values x.0) (value x.1 ∷ []) vs))
      (of.begins x.0 (Required T rest) (value x.1 ∷ vs) (and_first _ _ h) (and_second _ _ h))

  pub dependent_tell : Tells {A = Suited} (λ x. of.known x.0 && may_begin T (value_tag (value x.1)))
      (λ rest. of.types (Required T rest)) (λ x. values x.0 ++ (value x.1 ∷ []))
  dependent_tell x y rest vs ws h k d b c e =
      let v = value x.1 in
      let w = value y.1 in
      let alike = ap (map der) (sym (append_assoc (values x.0) (v ∷ []) vs)) ∙ e
      ∙ ap (map der) (append_assoc (values y.0) (w ∷ []) ws) in
      let t = of.tells x.0 y.0 (Required T rest) (v ∷ vs) (w ∷ ws) (and_first _ _ h) (and_first _ _ k) d
      (and_second _ _ h) (and_second _ _ k) alike in
      let behind : map der (v ∷ vs) ≡ map der (w ∷ ws) = t.1 in
      let same_text : der v ≡ der w = cc in
      let same_rest : map der vs ≡ map der ws = cc in (
        each_last (values x.0) (values y.0) v w t.0 (one (values x.0) (values y.0) x.1 y.1 t.0 x.2 y.2 same_text),
        same_rest,
        t.2,
      )

  abbrev pub dependent : Listing {A = Suited} (λ x. values x.0 ++ (value x.1 ∷ []))
  dependent = record {
    types = λ rest. of.types (Required T rest);
    most = of.most + 1;
    known = λ x. of.known x.0 && may_begin T (value_tag (value x.1));
    begins = dependent_begin;
    tells = dependent_tell;
  }

-- the same where that may be absent
one_field : {B : Type 0} (value : B → Value) (suits : List Value → B → Bool) (vs ws : List Value) (o o' : Option B)
    → OneTextBehind value suits → Each Same vs ws → suits_where_there (suits vs) o ≡ true
    → suits_where_there (suits ws) o' ≡ true → OneField (option_map value o) (option_map value o')
one_field value suits vs ws None None f same h k = tt
one_field value suits vs ws None (Some y) f same h k = tt
one_field value suits vs ws (Some x) None f same h k = tt
one_field value suits vs ws (Some x) (Some y) f same h k = f vs ws x y same h k

-- Fields, and one after them that may be absent, and suits them.
module _ {A B : Type 0} {values : A → List Value} (of : Listing values) (value : B → Value) (T : TypeTerm)
    (suits : List Value → B → Bool) (one : OneTextBehind value suits) where
  abbrev pub SuitedWhereThere : Type 0
  SuitedWhereThere = (a : A) × (o : Option B) × (suits_where_there (suits (values a)) o ≡ true)

  pub optional_begin : BeginsAsTyped {A = SuitedWhereThere} (λ x. of.known x.0 && fits_one T (option_map value x.1))
      (λ rest. of.types (Optional T rest)) (λ x. values x.0 ++ with_field (option_map value x.1) [])
  optional_begin x rest vs h b =
      let v = option_map value x.1 in
      subst (Begins (of.types (Optional T rest))) (sym (append_assoc (values x.0) (with_field v []) vs))
      (of.begins x.0 (Optional T rest) (with_field v [] ++ vs) (and_first _ _ h)
      (optional_begins T v rest vs (and_second (of.known x.0) (fits_one T v) h) b))

  pub optional_tell : Tells {A = SuitedWhereThere} (λ x. of.known x.0 && fits_one T (option_map value x.1))
      (λ rest. of.types (Optional T rest)) (λ x. values x.0 ++ with_field (option_map value x.1) [])
  optional_tell x y rest vs ws h k d b c e =
      let v = option_map value x.1 in
      let w = option_map value y.1 in
      let h' = and_second (of.known x.0) (fits_one T v) h in
      let k' = and_second (of.known y.0) (fits_one T w) k in
      let alike = ap (map der) (sym (append_assoc (values x.0) (with_field v []) vs)) ∙ e
      ∙ ap (map der) (append_assoc (values y.0) (with_field w []) ws) in
      let t = of.tells x.0 y.0 (Optional T rest) (with_field v [] ++ vs) (with_field w [] ++ ws) (and_first _ _ h)
      (and_first _ _ k) d (optional_begins T v rest vs h' b) (optional_begins T w rest ws k' c) alike in
      let u = optional_tells T v w rest vs ws
      (one_field value suits (values x.0) (values y.0) x.1 y.1 one t.0 x.2 y.2) h' k' t.2 b c t.1 in
      (each_both (values x.0) (with_field v []) (values y.0) (with_field w []) t.0 u.0, u.1, u.2)

  abbrev pub optional_dependent : Listing {A = SuitedWhereThere} (λ x. values x.0 ++ with_field (option_map value x.1) [])
  optional_dependent = record {
    types = λ rest. of.types (Optional T rest);
    most = of.most + 1;
    known = λ x. of.known x.0 && fits_one T (option_map value x.1);
    begins = optional_begin;
    tells = optional_tell;
  }

-- one of two, by a leaf of the fields before it
either_one : {A B : Type 0} (first : A → Value) (second : B → Value) (suits : List Value → A → Bool)
    (suits' : List Value → B → Bool) (b : Bool) (vs ws : List Value) (x y : Either A B)
    → OneTextBehind first suits → OneTextBehind second suits' → Each Same vs ws
    → suits_as b (suits vs) (suits' vs) x ≡ true → suits_as b (suits ws) (suits' ws) y ≡ true
    → der (either_of first second x) ≡ der (either_of first second y)
    → Same (either_of first second x) (either_of first second y)
either_one first second suits suits' b vs ws (First x) (First y) f g same h k e =
    f vs ws x y same (and_second _ _ h) (and_second _ _ k) e
either_one first second suits suits' true vs ws (First x) (Second y) f g same h k e = cc
either_one first second suits suits' false vs ws (First x) (Second y) f g same h k e = cc
either_one first second suits suits' true vs ws (Second x) (First y) f g same h k e = cc
either_one first second suits suits' false vs ws (Second x) (First y) f g same h k e = cc
either_one first second suits suits' b vs ws (Second x) (Second y) f g same h k e =
    g vs ws x y same (and_second _ _ h) (and_second _ _ k) e

pub defined_one_text : {A B : Type 0} (first : A → Value) (second : B → Value) (suits : List Value → A → Bool)
    (suits' : List Value → B → Bool) (path : List ℕ) (octets : List (List ℕ))
    → OneTextBehind first suits → OneTextBehind second suits'
    → OneTextBehind (either_of first second)
    (λ vs e. suits_as (one_of (leaf_at path vs) octets) (suits vs) (suits' vs) e)
defined_one_text first second suits suits' path octets f g vs ws x y same h k e =
    let is = ap (λ o. one_of o octets) (leaf_at_same path vs ws same) in
    either_one first second suits suits' (one_of (leaf_at path vs) octets) vs ws x y f g same h
    (ap (λ b. suits_as b (suits ws) (suits' ws) y) is ∙ k) e
