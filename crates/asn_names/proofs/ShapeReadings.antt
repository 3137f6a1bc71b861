-- The plain reading of types as data, by the calls of a pull reader.
use Rattle.std.proofs.Common.{◌≡◌, ◌&&◌, ◌-◌, ◌<◌, ◌≤◌, Bool, Err, List, Ok, OnOk, Result, arith, false, nat_le, refl, subst, sym, true, ℕ}
use Rattle.std.proofs.lemmas.Bool.Decides.{nat_tests}
use Rattle.tlv_core.specs.Identifier.{Tag}
use Rattle.tlv_core.specs.declared.fault.ReadError.{ReadError}
use Rattle.tlv_core.specs.declared.source.Source.{Ghosts}
use Rattle.x690.specs.Layouts.{same_tag}
use Rattle.x690.specs.ReadTypes.{IsClosed, read_type}
use Rattle.x690.specs.Reading.{Reading, choose, ◌>>=◌}
use Rattle.x690.specs.Reads.{Heard, Said}
use Rattle.x690.specs.TypeTerms.{ChoiceType, SequenceOfType, SetOfType, TypeTerm, fits_tag}
use Rattle.x690.specs.Values.{Value}
use Rattle.x690_laws.proofs.TypesClosed.{choice_closed, leaf_closed, open_closed, sequence_closed, sequence_of_closed, set_of_closed}
use Rattle.ber_pull.specs.Hears.{heard_error}
use Rattle.ber_pull.specs.Standing.{Standing}
use Rattle.ber_pull.specs.View.{Answers, Unmoved, standing}
use Rattle.ber_pull.specs.declared.pull.Pull.{Pull}
use Rattle.ber_pull.specs.declared.state.Given.{Given}
use Rattle.ber_pull.proofs.Hearing.{hears_as, hears_on}
use Rattle.asn_elements.specs.Reading.{read_given, read_given_members}
use Rattle.asn_elements.proofs.ReaderAnswers.{unmoved_answers}
use Rattle.asn_elements.proofs.TypeReadings.{list_of, list_type_is, set_of, set_type_is}
use Rattle.asn_open_values.specs.OpenTexts.{AnswersText}
use Rattle.pkix_shapes.specs.Terms.{fields_of, kind_of, tag_of, term_of}
use Rattle.pkix_shapes.specs.declared.shape.Shape.{Choice', Containing', DefinedBy', Leaf, ListOf', Named', Open, Private', Refused, Sequence', SetOf', Shape}
use Rattle.pkix_shapes.specs.Plain.{is_plain}

-- A text by a reading that is answered as another one.
pub text_through : {R : Type 0} {s : Ghosts R} (old mid new : Pull R s) (p q : Reading Value) (before after : List ℕ)
    (r : Result (Unit {0}) ReadError)
    → ((h : Heard Value) → Answers mid new p h → Answers old new q h) → AnswersText mid new p before after r
    → AnswersText old new q before after r
text_through old mid new p q before after (Ok x) f a = (a.0, a.1, f (Said a.0) a.2)
text_through old mid new p q before after (Err e) f a = f (heard_error e) a

-- it stands as it did, and stays so
pub unmoved_still : {R : Type 0} {s : Ghosts R} (old mid new : Pull R s) → Unmoved old mid → new ≡ mid
    → Unmoved old new
unmoved_still old mid new u e = subst (λ z. Unmoved old z) (sym e) u

-- what follows of success
pub ok_so : {A B E : Type 0} (r : Result (Unit {0}) E) → OnOk r A → (A → B) → OnOk r B
ok_so (Ok x) a f = f a
ok_so (Err e) a f = a

pub and_first : (a b : Bool) → (a && b) ≡ true → a ≡ true
and_first true b e = refl
and_first false b e = cc

pub and_second : (a b : Bool) → (a && b) ≡ true → b ≡ true
and_second true b e = e
and_second false b e = cc

-- the first type of a choice, or the second

pub as_first : (first second : TypeTerm) (s : Standing) (g : Given) → fits_tag first g.tag ≡ true
    → read_given first s g ≡ read_given (ChoiceType first second) s g
unfolding read_type choose
as_first first second s g e = rw e refl

pub as_second : (first second : TypeTerm) (s : Standing) (g : Given) → fits_tag first g.tag ≡ false
    → read_given second s g ≡ read_given (ChoiceType first second) s g
unfolding read_type choose
as_second first second s g e = rw e refl

-- the element has the tag, and its members were read

pub list_behind_tag : {R : Type 0} {s : Ghosts R} (old mid new : Pull R s) (own : Tag) (least : ℕ) (type : TypeTerm)
    (g : Given) (h : Heard Value)
    → Unmoved old mid → same_tag own g.tag ≡ true
    → Answers mid new (read_given_members type (standing mid) g >>= list_of own least) h
    → Answers old new (read_given (SequenceOfType own least type) (standing old) g) h
list_behind_tag old mid new own least type g h still on x =
    hears_as _ _ _ _ _ _ _ (list_type_is own least type (standing old) g)
    (hears_on _ _ _ _ _ _ _ _ on
    (unmoved_answers (λ z. read_given_members type z g >>= list_of own least) old mid new h still x))

pub set_behind_tag : {R : Type 0} {s : Ghosts R} (old mid new : Pull R s) (own : Tag) (least : ℕ) (type : TypeTerm)
    (g : Given) (h : Heard Value)
    → Unmoved old mid → same_tag own g.tag ≡ true
    → Answers mid new (read_given_members type (standing mid) g >>= set_of own least g.at) h
    → Answers old new (read_given (SetOfType own least type) (standing old) g) h
set_behind_tag old mid new own least type g h still on x =
    hears_as _ _ _ _ _ _ _ (set_type_is own least type (standing old) g)
    (hears_on _ _ _ _ _ _ _ _ on
    (unmoved_answers (λ z. read_given_members type z g >>= set_of own least g.at) old mid new h still x))

-- whether they are enough, by how many are missing

pub too_few : (least count missing : ℕ) → missing ≡ least - count → 0 < missing → nat_le least count ≡ false
too_few least count missing e some = let less : count < least = omega arith in grind (arith, nat_tests)

pub enough : (least count missing : ℕ) → missing ≡ least - count → missing ≤ 0 → nat_le least count ≡ true
enough least count missing e none = let more : least ≤ count = omega arith in grind (arith, nat_tests)

-- A plain type reads the same after any fields.
pub plain_closed : (shape : Shape) → is_plain shape ≡ true → IsClosed (term_of shape)
plain_closed (Leaf tag contents) plain = leaf_closed (tag_of tag) (kind_of contents)
plain_closed Open plain = open_closed
plain_closed (ListOf' tag least p shape) plain = sequence_of_closed (tag_of tag) least (term_of shape)
plain_closed (SetOf' tag least p shape) plain = set_of_closed (tag_of tag) least (term_of shape)
plain_closed (Sequence' tag p fields) plain = sequence_closed (tag_of tag) (fields_of fields)
plain_closed (Containing' tag p shape) plain = cc
plain_closed (Refused tag) plain = cc
plain_closed (DefinedBy' path identifiers p first q second) plain = cc
plain_closed (Choice' p first q second) plain =
    choice_closed (term_of first) (term_of second)
    (plain_closed first (and_first (is_plain first) (is_plain second) plain))
    (plain_closed second (and_second (is_plain first) (is_plain second) plain))
plain_closed (Named' name p shape) plain = plain_closed shape plain
plain_closed (Private' p shape) plain = plain_closed shape plain
