-- The plain readings of types, after their tags.
use Rattle.std.proofs.Common.{◌≡◌, List, length, nat_le, refl, true, ℕ}
use Rattle.tlv_core.specs.Identifier.{Tag}
use Rattle.tlv_core.specs.declared.reason.Reason.TheVariants.{EmptySet, Missing, WrongTag}
use Rattle.tlv_core.specs.declared.source.Source.{Ghosts}
use Rattle.x690.specs.Contents.{LeafKind}
use Rattle.x690.specs.Layouts.{same_tag}
use Rattle.x690.specs.Points.{fault}
use Rattle.x690.specs.ReadTypes.{read_type}
use Rattle.x690.specs.ReadHeaders.{Ended}
use Rattle.x690.specs.Reading.{Done, Reading, require, ◌>>=◌}
use Rattle.x690.specs.Reads.{Heard}
use Rattle.x690.specs.TypeTerms.{LeafType, SequenceOfType, SetOfType, TypeTerm}
use Rattle.x690.specs.Values.{Sequence, SetOf, Value, values_of}
use Rattle.ber_pull.specs.Standing.{Standing}
use Rattle.ber_pull.specs.View.{Answers, Unmoved, standing}
use Rattle.ber_pull.specs.declared.pull.Pull.{Pull}
use Rattle.ber_pull.specs.declared.state.Given.{Given}
use Rattle.ber_pull.proofs.Hearing.{hears_as, hears_on}
use Rattle.asn_elements.specs.Reading.{read_given, read_given_leaf, read_given_members}
use Rattle.asn_elements.proofs.ReaderAnswers.{unmoved_answers}

pub leaf_type_is : (own : Tag) (kind : LeafKind) (s : Standing) (g : Given)
    → require (same_tag own g.tag) (fault g.at WrongTag) (read_given_leaf kind own s g)
    ≡ read_given (LeafType own kind) s g
unfolding read_type
leaf_type_is own kind s g = refl

-- the element has the tag, and the leaf was read
pub leaf_behind_tag : {R : Type 0} {s : Ghosts R} (old mid new : Pull R s) (own : Tag) (kind : LeafKind) (g : Given)
    (h : Heard Value)
    → Unmoved old mid → same_tag own g.tag ≡ true → Answers mid new (read_given_leaf kind own (standing mid) g) h
    → Answers old new (read_given (LeafType own kind) (standing old) g) h
leaf_behind_tag old mid new own kind g h same on x =
    hears_as _ _ _ _ _ _ _ (leaf_type_is own kind (standing old) g)
    (hears_on _ _ _ _ _ _ _ _ on (unmoved_answers (λ s. read_given_leaf kind own s g) old mid new h same x))

-- SEQUENCE OF with at least so many members
abbrev pub list_of : Tag → ℕ → Ended (List Value) → Reading Value
list_of own least members =
    require (nat_le least (length members.all)) (fault members.at Missing) (Done (Sequence own (values_of members.all)))

pub list_type_is : (own : Tag) (least : ℕ) (type : TypeTerm) (s : Standing) (g : Given)
    → require (same_tag own g.tag) (fault g.at WrongTag) (read_given_members type s g >>= list_of own least)
    ≡ read_given (SequenceOfType own least type) s g
unfolding read_type
list_type_is own least type s g = refl

-- SET OF with at least so many members
abbrev pub set_of : Tag → ℕ → ℕ → Ended (List Value) → Reading Value
set_of own least place members =
    require (nat_le least (length members.all)) (fault place EmptySet) (Done (SetOf own (values_of members.all)))

pub set_type_is : (own : Tag) (least : ℕ) (type : TypeTerm) (s : Standing) (g : Given)
    → require (same_tag own g.tag) (fault g.at WrongTag) (read_given_members type s g >>= set_of own least g.at)
    ≡ read_given (SetOfType own least type) s g
unfolding read_type
set_type_is own least type s g = refl
