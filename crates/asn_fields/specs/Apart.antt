-- What is known of fields that stand one after another, so that their texts tell them apart.
use Rattle.std.specs.Prelude.{Bool, List, None, Option, Some, [], false, map, not, true, ◌&&◌, ◌++◌, ◌||◌, ◌≡◌, ◌∷◌}
use Rattle.tlv_core.specs.Identifier.{Tag}
use Rattle.x690.specs.DerTexts.{der}
use Rattle.x690.specs.Layouts.{same_tag}
use Rattle.x690.specs.Lists.{Each}
use Rattle.x690.specs.TypeTerms.{ChoiceType, ContainingType, Default, DefinedByType, EndOfFields, Fields, LeafType, OpenType, Optional, RefusedType, Required, RuledType, SequenceOfType, SequenceType, SetOfType, TypeTerm}
use Rattle.x690.specs.Values.{Same, Value, value_tag}

-- `fits_tag` and `fields_fit_tag` of x690, which unfold by themselves
abbrev pub may_begin : TypeTerm → Tag → Bool
may_begin (LeafType own kind) tag = same_tag own tag
may_begin OpenType tag = true
may_begin (SequenceOfType own least type) tag = same_tag own tag
may_begin (SetOfType own least type) tag = same_tag own tag
may_begin (SequenceType own fields) tag = same_tag own tag
may_begin (ContainingType own rule type) tag = same_tag own tag
may_begin (RefusedType own why) tag = same_tag own tag
may_begin (RuledType rule type) tag = may_begin type tag
may_begin (DefinedByType path octets first second) tag = may_begin first tag || may_begin second tag
may_begin (ChoiceType first second) tag = may_begin first tag || may_begin second tag

abbrev pub fields_may_begin : Fields → Tag → Bool
fields_may_begin EndOfFields tag = false
fields_may_begin (Required type rest) tag = may_begin type tag
fields_may_begin (Optional type rest) tag = may_begin type tag || fields_may_begin rest tag
fields_may_begin (Default own octets type rest) tag = may_begin type tag || fields_may_begin rest tag

-- no tag with which the type may begin passes the test
abbrev pub none_of : TypeTerm → (Tag → Bool) → Bool
none_of (LeafType own kind) test = not (test own)
none_of OpenType test = false
none_of (SequenceOfType own least type) test = not (test own)
none_of (SetOfType own least type) test = not (test own)
none_of (SequenceType own fields) test = not (test own)
none_of (ContainingType own rule type) test = not (test own)
none_of (RefusedType own why) test = not (test own)
none_of (RuledType rule type) test = none_of type test
none_of (DefinedByType path octets first second) test = none_of first test && none_of second test
none_of (ChoiceType first second) test = none_of first test && none_of second test

abbrev pub is_end : Fields → Bool
is_end EndOfFields = true
is_end (Required type rest) = false
is_end (Optional type rest) = false
is_end (Default own octets type rest) = false

-- no field that may be missing begins as what may follow it (X.680 25.6)
abbrev pub apart : Fields → Bool
apart EndOfFields = true
apart (Required type rest) = apart rest
apart (Optional type rest) = (is_end rest || none_of type (fields_may_begin rest)) && apart rest
apart (Default own octets type rest) = (is_end rest || none_of type (fields_may_begin rest)) && apart rest

-- values of these fields, as far as their first tag tells
abbrev pub Begins : Fields → List Value → Type 0
Begins fields [] = Unit {0}
Begins fields (value ∷ values) = fields_may_begin fields (value_tag value) ≡ true

-- Fields in front of others begin as their types may,
abbrev pub BeginsAsTyped : {A : Type 0} → (A → Bool) → (Fields → Fields) → (A → List Value) → Type 0
BeginsAsTyped {A} known types values =
    (x : A) (rest : Fields) (vs : List Value) → known x ≡ true → Begins rest vs → Begins (types rest) (values x ++ vs)

-- and are told by their texts, and so are those after them.
abbrev pub Tells : {A : Type 0} → (A → Bool) → (Fields → Fields) → (A → List Value) → Type 0
Tells {A} known types values =
    (x y : A) (rest : Fields) (vs ws : List Value) → known x ≡ true → known y ≡ true → apart (types rest) ≡ true
    → Begins rest vs → Begins rest ws → map der (values x ++ vs) ≡ map der (values y ++ ws)
    → Each Same (values x) (values y) × (map der vs ≡ map der ws) × (apart rest ≡ true)

-- the value that is there, if one is, has a tag of the type
abbrev pub fits_one : TypeTerm → Option Value → Bool
fits_one type None = true
fits_one type (Some value) = may_begin type (value_tag value)

-- the value has a tag of the type
abbrev pub BeginsAs : TypeTerm → Value → Type 0
BeginsAs type value = may_begin type (value_tag value) ≡ true
