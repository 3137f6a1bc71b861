-- Types that don't look at the earlier fields of their container.
use Rattle.std.proofs.Common.{List, [], ap₂, map, refl, ℕ, ◌∷◌, ◌≡◌}
use Rattle.tlv_core.specs.Identifier.{Tag}
use Rattle.x690.specs.Contents.{LeafKind, OctetString, Utf8String}
use Rattle.x690.specs.Layouts.{universal}
use Rattle.x690.specs.ReadTypes.{IsClosed, apply_rule, read_type}
use Rattle.x690.specs.Reading.{choose, ◌>>=◌}
use Rattle.x690.specs.StringTypes.{carried_numbers, carried_string, string_types}
use Rattle.x690.specs.TypeTerms.{ChoiceType, Fields, LeafType, OpenType, RefusedType, Rule, RuledType, SequenceOfType, SequenceType, SetOfType, TypeTerm, choice_of, fits_tag}
use Rattle.x690.specs.Values.{Value}
use Rattle.tlv_core.specs.declared.reason.Reason.{Reason}

pub leaf_closed : (own : Tag) (kind : LeafKind) → IsClosed (LeafType own kind)
unfolding read_type
leaf_closed own kind l earlier c p tag constructed = refl

pub open_closed : IsClosed OpenType
unfolding read_type
open_closed l earlier c p tag constructed = refl

pub sequence_closed : (own : Tag) (fields : Fields) → IsClosed (SequenceType own fields)
unfolding read_type
sequence_closed own fields l earlier c p tag constructed = refl

pub sequence_of_closed : (own : Tag) (least : ℕ) (T : TypeTerm) → IsClosed (SequenceOfType own least T)
unfolding read_type
sequence_of_closed own least T l earlier c p tag constructed = refl

pub set_of_closed : (own : Tag) (least : ℕ) (T : TypeTerm) → IsClosed (SetOfType own least T)
unfolding read_type
set_of_closed own least T l earlier c p tag constructed = refl

pub choice_closed : (first second : TypeTerm) → IsClosed first → IsClosed second → IsClosed (ChoiceType first second)
unfolding read_type
choice_closed first second closed closed' l earlier c p tag constructed =
    ap₂ (choose (fits_tag first tag)) (closed l earlier c p tag constructed) (closed' l earlier c p tag constructed)

-- with a rule on the value alone
pub ruled_closed : (rule : Rule) (T : TypeTerm) → IsClosed T → ((earlier : List Value) → rule earlier ≡ rule [])
    → IsClosed (RuledType rule T)
unfolding read_type
ruled_closed rule T closed alone l earlier c p tag constructed =
    ap₂ (λ reading rule'. reading >>= λ value. apply_rule p (rule' value) value) (closed l earlier c p tag constructed)
    (alone earlier)

-- character strings and times
carried_closed : (first : TypeTerm) (numbers : List ℕ) → IsClosed first
    → IsClosed (choice_of first (map carried_string numbers))
carried_closed first [] closed = closed
carried_closed first (number ∷ numbers) closed =
    choice_closed first (choice_of (carried_string number) (map carried_string numbers)) closed
    (carried_closed (carried_string number) numbers (leaf_closed (universal number) OctetString))

pub strings_closed : IsClosed string_types
unfolding string_types
strings_closed =
    carried_closed (LeafType (universal 12) Utf8String) carried_numbers (leaf_closed (universal 12) Utf8String)

pub refused_closed : (own : Tag) (why : Reason) → IsClosed (RefusedType own why)
unfolding read_type
refused_closed own why limits earlier enclosing place tag constructed = refl
