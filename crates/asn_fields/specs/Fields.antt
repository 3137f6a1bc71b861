-- What clauses see of fields.
use Rattle.std.specs.Prelude.{Bool, List, MatchResult, None, Option, Result, Some, [], false, true, ◌∷◌, ◌≡◌}
use Rattle.std.specs.Option.{option_map}
use Rattle.tlv_core.specs.Identifier.{Tag}
use Rattle.tlv_core.specs.declared.fault.ReadError.{ReadError}
use Rattle.tlv_core.specs.declared.source.Source.{Ghosts}
use Rattle.x690.specs.Layouts.{universal}
use Rattle.x690.specs.Points.{Enclosing}
use Rattle.x690.specs.ReadHeaders as headers
use Rattle.x690.specs.ReadHeaders.{next_tag}
use Rattle.x690.specs.ReadTypes.{read_type}
use Rattle.x690.specs.Reading.{Reading}
use Rattle.x690.specs.Reads.{Heard, Said}
use Rattle.x690.specs.TypeTerms.{Fields as FieldTypes, SequenceType, TypeTerm, fits_tag}
use Rattle.x690.specs.Values.{Leaf, Same, Sequence, Value, values_of}
use Rattle.asn_fields.specs.Insides.{Inside, Within}
use Rattle.asn_fields.specs.FieldReadings.{read_begin, read_due, read_optional, read_take}
use Rattle.ber_pull.specs.Hears.{heard, heard_error, next_at}
use Rattle.ber_pull.specs.Standing.{Standing, enclosing, used}
use Rattle.ber_pull.specs.View.{Answers}
use Rattle.ber_pull.specs.declared.pull.Pull.{Pull}
use Rattle.ber_pull.specs.declared.state.Given.{Given}
use Rattle.asn_elements.specs.Reading.{AnswersValue}
use Rattle.asn_fields.specs.declared.next.Next.{Next}

-- what stands next
abbrev pub next_of : Next → headers.Next
next_of n = next_at n.at n.tag

-- it stands inside a container, before this
abbrev pub IsInside : {R : Type 0} {s : Ghosts R} → Pull R s → Next → Type 0
IsInside pull next = (outer : Standing) × (inside : Enclosing) × Inside outer inside pull.state (next_of next)

-- an element stands there that may begin as one of the type
abbrev pub may_stand : TypeTerm → Option (Tag × Bool) → Bool
may_stand type None = false
may_stand type (Some element) = fits_tag type element.0

abbrev pub stands_next : TypeTerm → Next → Bool
stands_next type next = may_stand type next.tag

-- wherever the container was opened, what was answered is what this reading gives
abbrev pub AnswersInside : {R A : Type 0} {s : Ghosts R} → Pull R s → Pull R s → Next
    → (Standing → Enclosing → Reading A) → Heard A → Type 0
AnswersInside old new next p h =
    (outer : Standing) (inside : Enclosing) → Inside outer inside old.state (next_of next)
    → Answers old new (p outer inside) h

-- it stands inside the same container still, before this
abbrev pub StaysInside : {R : Type 0} {s : Ghosts R} → Pull R s → Pull R s → Next → Next → Type 0
StaysInside old new next next' =
    (outer : Standing) (inside : Enclosing) → Inside outer inside old.state (next_of next)
    → Inside outer inside new.state (next_of next')

-- The same value, or none in both.
abbrev pub SameField : Option Value → Option Value → Type 0
SameField None None = Unit {0}
SameField None (Some value) = ⊥
SameField (Some value) None = ⊥
SameField (Some value) (Some other) = Same value other

-- Wherever the container was opened, the field is what this reading gives, up to the order of what stands in a SET OF,
-- and so is what stands after it.
abbrev pub AnswersField : {R A V : Type 0} {s : Ghosts R} → Pull R s → Pull R s → Next
    → (Standing → Enclosing → Reading (V × headers.Next)) → (V → V → Type 0) → (A → V) → headers.Next
    → Result A ReadError → Type 0
AnswersField {R} {A} {V} old new next p Alike value behind result =
    (outer : Standing) (inside : Enclosing) → Inside outer inside old.state (next_of next)
    → MatchResult result (λ x. (v : V) × Alike v (value x) × Answers old new (p outer inside) (Said (v, behind)))
    (λ e. Answers old new (p outer inside) (heard_error e))

-- the element that is given is read as the type, after any fields
abbrev pub AnswersGiven : {R A : Type 0} {s : Ghosts R} → Pull R s → Pull R s → TypeTerm → (A → Value)
    → Result A ReadError → Type 0
AnswersGiven old new type value result =
    (given : Given) (earlier : List Value) → old.state.error ≡ None → old.state.given ≡ Some given
    → AnswersValue old new
    (read_type old.state.limits type earlier (enclosing old.state) given.at given.tag given.constructed) value result

-- or as a SEQUENCE of these fields
abbrev pub AnswersSequence : {R A : Type 0} {s : Ghosts R} → Pull R s → Pull R s → Tag → FieldTypes → (A → List Value)
    → Result A ReadError → Type 0
AnswersSequence old new tag fields values result =
    AnswersGiven old new (SequenceType tag fields) (λ x. Sequence tag (values_of (values x))) result

-- What the calls on a container owe, wherever it was opened.

-- into the element that is given: the point inside, and what stands there first
abbrev pub AnswersBegin : {R : Type 0} {s : Ghosts R} → Pull R s → Pull R s → Tag → Result Next ReadError → Type 0
AnswersBegin old new tag result =
    (given : Given) → old.state.error ≡ None → old.state.given ≡ Some given
    → Answers old new (read_begin old.state.limits tag (enclosing old.state) given.at given.tag given.constructed)
    (heard (λ next. (enclosing new.state, next_of next)) result)

abbrev pub StandsInto : {R : Type 0} {s : Ghosts R} → Pull R s → Pull R s → Next → Type 0
StandsInto old new next = Inside old.state (enclosing new.state) new.state (next_of next)

-- what stands next
abbrev pub AnswersAhead : {R : Type 0} {s : Ghosts R} → Pull R s → Pull R s → Result Next ReadError → Type 0
AnswersAhead old new result =
    (outer : Standing) (inside : Enclosing) → Within outer inside old.state
    → Answers old new (next_tag outer.limits inside) (heard next_of result)

abbrev pub StandsAhead : {R : Type 0} {s : Ghosts R} → Pull R s → Pull R s → Next → Type 0
StandsAhead old new next =
    (outer : Standing) (inside : Enclosing) → Within outer inside old.state
    → Inside outer inside new.state (next_of next)

-- a field that is due, by itself
abbrev pub AnswersTake : {R A : Type 0} {s : Ghosts R} → Pull R s → Pull R s → Next → TypeTerm → (A → Value)
    → Result A ReadError → Type 0
AnswersTake old new next type value result =
    (earlier : List Value) (outer : Standing) (inside : Enclosing) → Inside outer inside old.state (next_of next)
    → AnswersValue old new (read_take outer.limits type earlier inside (next_of next)) value result

-- no identifier is given inside the container
abbrev pub LeavesWithin : {R : Type 0} {s : Ghosts R} → Pull R s → Pull R s → Next → Type 0
LeavesWithin old new next =
    (outer : Standing) (inside : Enclosing) → Inside outer inside old.state (next_of next)
    → Within outer inside new.state

-- and with what stands after it
abbrev pub AnswersDue : {R A : Type 0} {s : Ghosts R} → Pull R s → Pull R s → Next → Next → TypeTerm → (A → Value)
    → Result A ReadError → Type 0
AnswersDue old new next next' type value result =
    (earlier : List Value)
    → AnswersField old new next (λ outer inside. read_due outer.limits type earlier inside (next_of next)) Same value
    (next_of next') result

-- a field that may be absent
abbrev pub AnswersOptional : {R A : Type 0} {s : Ghosts R} → Pull R s → Pull R s → Next → Next → TypeTerm → (A → Value)
    → Result (Option A) ReadError → Type 0
AnswersOptional old new next next' type value result =
    (earlier : List Value)
    → AnswersField old new next
    (λ outer inside. read_optional outer.limits type earlier inside (next_of next)) SameField (option_map value)
    (next_of next') result

-- the end
abbrev pub LeavesContainer : {R : Type 0} {s : Ghosts R} → Pull R s → Pull R s → Next → Type 0
LeavesContainer old new next =
    (outer : Standing) (inside : Enclosing) → Inside outer inside old.state (next_of next)
    → new.state ≡ used new.state.taken outer

-- A BOOLEAN DEFAULT FALSE: its value where it is TRUE, else none (X.690 11.5).
abbrev pub unless_false : Bool → Option Value
unless_false true = Some (Leaf (universal 1) (255 ∷ []))
unless_false false = None
