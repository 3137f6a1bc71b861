-- Fields one after another are told apart by their texts.
use Rattle.std.proofs.Common.{◌≡◌, ◌∙◌, ◌+◌, ◌++◌, ◌&&◌, ◌||◌, ◌∷◌, Bool, List, [], None, Option, Some, append-nil, append_assoc, ap, false, map, not, refl, subst, sym, true, ℕ}
use Rattle.tlv_core.specs.Identifier.{Tag}
use Rattle.x690.specs.DerTexts.{der, der_element}
use Rattle.x690.specs.Contents.{Boolean}
use Rattle.x690.specs.Layouts.{same_tag, universal}
use Rattle.x690_laws.proofs.ReadingLayoutsSound.{same_tag_is}
use Rattle.x690.specs.TypeTerms.{ChoiceType, ContainingType, Default, DefinedByType, EndOfFields, Fields, LeafType, OpenType, Optional, RefusedType, Required, RuledType, SequenceOfType, SequenceType, SetOfType, TypeTerm}
use Rattle.x690.specs.Values.{Leaf, Same, Sequence, SetOf, Value, value_tag, values_of}
use Rattle.std.specs.Option.{option_map}
use Rattle.x690.specs.Lists.{Each}
use Rattle.asn_fields.specs.declared.either.Either.{Either}
use Rattle.asn_fields.specs.declared.either.Either.TheVariants.{First, Second}
use Rattle.x690_laws.proofs.TextsTellApart.{each_sequence, leaf_one_text, sequence_texts}
use Rattle.x690_laws.proofs.TextsAsLayouts.{element_alone}
use Rattle.asn_fields.specs.FieldReadings.{with_field}
use Rattle.asn_fields.specs.Fields.{unless_false}
use Rattle.asn_fields.specs.Listings.{Listing}
use Rattle.asn_fields.specs.Apart.{Begins, BeginsAsTyped, Tells, apart, fields_may_begin, fits_one, is_end, may_begin, none_of}

-- the text of a value by its tag
record Framed (v : Value) : Type 0 where
  pub form : Bool
  pub contents : List ℕ
  pub is : der v ≡ der_element (value_tag v) form contents

framed : (v : Value) → Framed v
unfolding der
framed (Leaf t c) = record { form = false; contents = c; is = refl }
framed (Sequence t vs) = record { form = true; contents = _; is = refl }
framed (SetOf t vs) = record { form = true; contents = _; is = refl }

-- values with one text have one tag
pub text_tag : (v w : Value) → der v ≡ der w → value_tag v ≡ value_tag w
text_tag v w e =
    let f = framed v in
    let g = framed w in
    (element_alone (value_tag v) (value_tag w) f.form g.form f.contents g.contents [] []
    (ap (λ z. z ++ []) (sym f.is ∙ e ∙ g.is))).tags

-- with one text they are the same
abbrev pub OneText : Value → Value → Type 0
OneText v w = der v ≡ der w → Same v w

-- so it is of a field that may be absent, where it is there in both
abbrev pub OneField : Option Value → Option Value → Type 0
OneField None None = Unit {0}
OneField None (Some w) = Unit {0}
OneField (Some v) None = Unit {0}
OneField (Some v) (Some w) = OneText v w

pub field_one_text : {A : Type 0} (value : A → Value) (one : (x y : A) → OneText (value x) (value y)) (o o' : Option A)
    → OneField (option_map value o) (option_map value o')
field_one_text value one None None = tt
field_one_text value one None (Some y) = tt
field_one_text value one (Some x) None = tt
field_one_text value one (Some x) (Some y) = one x y

-- so it is of a BOOLEAN DEFAULT FALSE
pub flag_one_text : (b c : Bool) → OneField (unless_false b) (unless_false c)
flag_one_text false false = tt
flag_one_text false true = tt
flag_one_text true false = tt
flag_one_text true true = leaf_one_text (universal 1) (universal 1) (255 ∷ []) (255 ∷ [])

pub and_first : (a b : Bool) → (a && b) ≡ true → a ≡ true
and_first true b e = refl
and_first false b e = cc

pub and_second : (a b : Bool) → (a && b) ≡ true → b ≡ true
and_second true b e = e
and_second false b e = cc

or_cases : {P : Type 0} (a b : Bool) → (a || b) ≡ true → (a ≡ true → P) → (b ≡ true → P) → P
or_cases true b e f g = f refl
or_cases false b e f g = g e

-- one own tag
own_none : (own : Tag) (test : Tag → Bool) (tag : Tag) → not (test own) ≡ true → same_tag own tag ≡ true
    → test tag ≡ false
own_none own test tag n m = subst (λ t. test t ≡ false) (same_tag_is own tag m) (not_true (test own) n)
  where
    not_true : (b : Bool) → not b ≡ true → b ≡ false
    not_true true e = cc
    not_true false e = refl

or_first : (a b : Bool) → a ≡ true → (a || b) ≡ true
or_first true b e = refl
or_first false b e = cc

or_second : (a b : Bool) → b ≡ true → (a || b) ≡ true
or_second true b e = refl
or_second false b e = e

-- one that is due

pub due_begins : (T : TypeTerm) (v : Value) (rest : Fields) (vs : List Value) → may_begin T (value_tag v) ≡ true
    → Begins (Required T rest) (v ∷ vs)
due_begins T v rest vs h = h

pub due_tells : (T : TypeTerm) (v w : Value) (rest : Fields) (vs ws : List Value) → OneText v w
    → apart (Required T rest) ≡ true → map der (v ∷ vs) ≡ map der (w ∷ ws)
    → Each Same (v ∷ []) (w ∷ []) × (map der vs ≡ map der ws) × (apart rest ≡ true)
due_tells T v w rest vs ws one d e = ((one cc, tt), cc, d)

-- One that may be absent, with or without a DEFAULT: `fits` is what may begin here.
none_of_is : (T : TypeTerm) (test : Tag → Bool) (tag : Tag) → none_of T test ≡ true → may_begin T tag ≡ true
    → test tag ≡ false
none_of_is (LeafType own kind) test tag n m = own_none own test tag n m
none_of_is OpenType test tag n m = cc
none_of_is (SequenceOfType own least T) test tag n m = own_none own test tag n m
none_of_is (SetOfType own least T) test tag n m = own_none own test tag n m
none_of_is (SequenceType own fields) test tag n m = own_none own test tag n m
none_of_is (ContainingType own rule T) test tag n m = own_none own test tag n m
none_of_is (RefusedType own why) test tag n m = own_none own test tag n m
none_of_is (RuledType rule T) test tag n m = none_of_is T test tag n m
none_of_is (DefinedByType path octets A B) test tag n m =
    or_cases (may_begin A tag) (may_begin B tag) m (none_of_is A test tag (and_first _ _ n))
    (none_of_is B test tag (and_second _ _ n))
none_of_is (ChoiceType A B) test tag n m =
    or_cases (may_begin A tag) (may_begin B tag) m (none_of_is A test tag (and_first _ _ n))
    (none_of_is B test tag (and_second _ _ n))

none_behind : (T : TypeTerm) (rest : Fields) → (is_end rest || none_of T (fields_may_begin rest)) ≡ true → (tag : Tag)
    → may_begin T tag ≡ true → fields_may_begin rest tag ≡ false
none_behind T EndOfFields h tag m = refl
none_behind T (Required T' rest) h tag m = none_of_is T (fields_may_begin (Required T' rest)) tag h m
none_behind T (Optional T' rest) h tag m = none_of_is T (fields_may_begin (Optional T' rest)) tag h m
none_behind T (Default own octets T' rest) h tag m =
    none_of_is T (fields_may_begin (Default own octets T' rest)) tag h m

module _ (T : TypeTerm) (rest : Fields)
    (parted : (tag : Tag) → may_begin T tag ≡ true → fields_may_begin rest tag ≡ false) where
  one_absent : (w : Value) (vs ws : List Value) → may_begin T (value_tag w) ≡ true → Begins rest vs
      → map der vs ≡ map der (w ∷ ws) → ⊥
  one_absent w [] ws h b e = cc
  one_absent w (v ∷ vs) ws h b e =
      let same : der v ≡ der w = cc in
      let off = parted (value_tag w) h in
      let on = subst (λ t. fields_may_begin rest t ≡ true) (text_tag v w same) b in
      cc

  pub absent_tells : (o o' : Option Value) (vs ws : List Value) → OneField o o' → fits_one T o ≡ true
      → fits_one T o' ≡ true → Begins rest vs → Begins rest ws
      → map der (with_field o [] ++ vs) ≡ map der (with_field o' [] ++ ws)
      → Each Same (with_field o []) (with_field o' []) × (map der vs ≡ map der ws)
  absent_tells None None vs ws one f g b c e = (tt, e)
  absent_tells None (Some w) vs ws one f g b c e = absurd (one_absent w vs ws g b e)
  absent_tells (Some v) None vs ws one f g b c e = absurd (one_absent v ws vs f c (sym e))
  absent_tells (Some v) (Some w) vs ws one f g b c e = ((one cc, tt), cc)

pub optional_begins : (T : TypeTerm) (o : Option Value) (rest : Fields) (vs : List Value) → fits_one T o ≡ true
    → Begins rest vs → Begins (Optional T rest) (with_field o [] ++ vs)
optional_begins T None rest [] f b = tt
optional_begins T None rest (v ∷ vs) f b = or_second (may_begin T (value_tag v)) (fields_may_begin rest (value_tag v)) b
optional_begins T (Some w) rest vs f b = or_first (may_begin T (value_tag w)) (fields_may_begin rest (value_tag w)) f

pub optional_tells : (T : TypeTerm) (o o' : Option Value) (rest : Fields) (vs ws : List Value) → OneField o o'
    → fits_one T o ≡ true → fits_one T o' ≡ true → apart (Optional T rest) ≡ true → Begins rest vs → Begins rest ws
    → map der (with_field o [] ++ vs) ≡ map der (with_field o' [] ++ ws)
    → Each Same (with_field o []) (with_field o' []) × (map der vs ≡ map der ws) × (apart rest ≡ true)
optional_tells T o o' rest vs ws one f g d b c e =
    let t = absent_tells T rest (none_behind T rest (and_first _ _ d)) o o' vs ws one f g b c e in
    (t.0, t.1, and_second _ _ d)

pub default_begins : (own : Tag) (octets : List ℕ) (T : TypeTerm) (o : Option Value) (rest : Fields) (vs : List Value)
    → fits_one T o ≡ true → Begins rest vs → Begins (Default own octets T rest) (with_field o [] ++ vs)
default_begins own octets T None rest [] f b = tt
default_begins own octets T None rest (v ∷ vs) f b =
    or_second (may_begin T (value_tag v)) (fields_may_begin rest (value_tag v)) b
default_begins own octets T (Some w) rest vs f b =
    or_first (may_begin T (value_tag w)) (fields_may_begin rest (value_tag w)) f

pub default_tells : (own : Tag) (octets : List ℕ) (T : TypeTerm) (o o' : Option Value) (rest : Fields)
    (vs ws : List Value)
    → OneField o o' → fits_one T o ≡ true → fits_one T o' ≡ true → apart (Default own octets T rest) ≡ true
    → Begins rest vs → Begins rest ws → map der (with_field o [] ++ vs) ≡ map der (with_field o' [] ++ ws)
    → Each Same (with_field o []) (with_field o' []) × (map der vs ≡ map der ws) × (apart rest ≡ true)
default_tells own octets T o o' rest vs ws one f g d b c e =
    let t = absent_tells T rest (none_behind T rest (and_first _ _ d)) o o' vs ws one f g b c e in
    (t.0, t.1, and_second _ _ d)

pub each_both : (vs vs' ws ws' : List Value) → Each Same vs ws → Each Same vs' ws' → Each Same (vs ++ vs') (ws ++ ws')
each_both [] vs' [] ws' h k = k
each_both [] vs' (w ∷ ws) ws' h k = absurd h
each_both (v ∷ vs) vs' [] ws' h k = absurd h
each_both (v ∷ vs) vs' (w ∷ ws) ws' h k = (h.0, each_both vs vs' ws ws' h.1 k)

-- fields and those after them
module _ {A B : Type 0} {values : A → List Value} {values' : B → List Value} (of : Listing values)
    (of' : Listing values') where
  pub both_begin : BeginsAsTyped {A = A × B} (λ x. of.known x.0 && of'.known x.1) (λ rest. of.types (of'.types rest))
      (λ x. values x.0 ++ values' x.1)
  both_begin x rest vs h b =
      subst (Begins (of.types (of'.types rest))) (sym (append_assoc (values x.0) (values' x.1) vs))
      (of.begins x.0 (of'.types rest) (values' x.1 ++ vs) (and_first _ _ h)
      (of'.begins x.1 rest vs (and_second _ _ h) b))

  pub both_tell : Tells {A = A × B} (λ x. of.known x.0 && of'.known x.1) (λ rest. of.types (of'.types rest))
      (λ x. values x.0 ++ values' x.1)
  both_tell x y rest vs ws h k d begins begins' e =
      let h' = and_second (of.known x.0) (of'.known x.1) h in
      let k' = and_second (of.known y.0) (of'.known y.1) k in
      let e' = ap (map der) (sym (append_assoc (values x.0) (values' x.1) vs)) ∙ e
      ∙ ap (map der) (append_assoc (values y.0) (values' y.1) ws) in
      let t = of.tells x.0 y.0 (of'.types rest) (values' x.1 ++ vs) (values' y.1 ++ ws) (and_first _ _ h)
      (and_first _ _ k) d (of'.begins x.1 rest vs h' begins) (of'.begins y.1 rest ws k' begins') e' in
      let u = of'.tells x.1 y.1 rest vs ws h' k' t.2 begins begins' t.1 in
      (each_both (values x.0) (values' x.1) (values y.0) (values' y.1) t.0 u.0, u.1, u.2)

  abbrev pub both : Listing {A = A × B} (λ x. values x.0 ++ values' x.1)
  both = record {
    types = λ rest. of.types (of'.types rest);
    most = of.most + of'.most;
    known = λ x. of.known x.0 && of'.known x.1;
    begins = both_begin;
    tells = both_tell;
  }

-- a field that is due
abbrev pub required : {A : Type 0} (value : A → Value) (T : TypeTerm) → ((x y : A) → OneText (value x) (value y))
    → Listing (λ a. value a ∷ [])
required value T one = record {
  types = λ rest. Required T rest;
  most = 1;
  known = λ a. may_begin T (value_tag (value a));
  begins = λ x rest vs h b. due_begins T (value x) rest vs h;
  tells = λ x y rest vs ws h k d b c e. due_tells T (value x) (value y) rest vs ws (one x y) d e;
}

-- one that may be absent
abbrev pub optional : {A : Type 0} (value : A → Value) (T : TypeTerm) → ((x y : A) → OneText (value x) (value y))
    → Listing {A = Option A} (λ o. with_field (option_map value o) [])
optional value T one = record {
  types = λ rest. Optional T rest;
  most = 1;
  known = λ o. fits_one T (option_map value o);
  begins = λ x rest vs h b. optional_begins T (option_map value x) rest vs h b;
  tells = λ x y rest vs ws h k d b c e.
      optional_tells T (option_map value x) (option_map value y) rest vs ws (field_one_text value one x y) h k d b c e;
}

-- a BOOLEAN DEFAULT FALSE
pub flag_fits : (b : Bool) → fits_one (LeafType (universal 1) Boolean) (unless_false b) ≡ true
flag_fits true = refl
flag_fits false = refl

abbrev boolean : TypeTerm
boolean = LeafType (universal 1) Boolean

abbrev pub flag : Listing (λ b. with_field (unless_false b) [])
flag = record {
  types = λ rest. Default (universal 1) (0 ∷ []) boolean rest;
  most = 1;
  known = λ b. true;
  begins = λ x rest vs h b. default_begins (universal 1) (0 ∷ []) boolean (unless_false x) rest vs (flag_fits x) b;
  tells = λ x y rest vs ws h k d b c e.
      default_tells (universal 1) (0 ∷ []) boolean (unless_false x) (unless_false y) rest vs ws (flag_one_text x y)
      (flag_fits x) (flag_fits y) d b c e;
}

-- and so of the SEQUENCE
pub sequence_one_text : {A : Type 0} {values : A → List Value} (of : Listing values)
    → apart (of.types EndOfFields) ≡ true → (t : Tag) (x y : A) → of.known x ≡ true → of.known y ≡ true
    → OneText (Sequence t (values_of (values x))) (Sequence t (values_of (values y)))
sequence_one_text {A} {values} of parted t x y k k' e =
    let alike = ap (map der) (append-nil (values x)) ∙ sequence_texts t (values x) (values y) e
    ∙ ap (map der) (sym (append-nil (values y))) in
    each_sequence t (values x) (values y) (of.tells x y EndOfFields [] [] k k' parted tt tt alike).0

-- one of two
abbrev pub either_of : {A B C : Type 0} → (A → C) → (B → C) → Either A B → C
either_of first second (First a) = first a
either_of first second (Second b) = second b
