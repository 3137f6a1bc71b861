-- What is read of an element whose type or rule goes by the earlier fields of its container.
use Rattle.std.specs.Prelude.{Bool, List, None, Option, Result, Some, [], false, not, true, ◌&&◌, ◌≡◌}
use Rattle.std.specs.Borrow.{Bor}
use Rattle.std.specs.Option.{option_copied, option_map}
use Rattle.tlv_core.specs.declared.fault.ReadError.{ReadError}
use Rattle.tlv_core.specs.declared.reason.Reason.{Reason}
use Rattle.tlv_core.specs.declared.source.Source.{Ghosts}
use Rattle.x690.specs.DerTexts.{der}
use Rattle.x690.specs.Lists.{Each}
use Rattle.x690.specs.Points.{Enclosing}
use Rattle.x690.specs.ReadTypes.{read_type}
use Rattle.x690.specs.Reading.{Reading}
use Rattle.x690.specs.TypeTerms.{TypeTerm}
use Rattle.x690.specs.Values.{Same, Value}
use Rattle.asn_fields.specs.Insides.{Inside}
use Rattle.asn_fields.specs.FieldReadings.{read_due, read_optional, read_take, with_field}
use Rattle.ber_pull.specs.Standing.{Standing, enclosing}
use Rattle.ber_pull.specs.declared.pull.Pull.{Pull}
use Rattle.ber_pull.specs.declared.state.Given.{Given}
use Rattle.asn_elements.specs.Reading.{AnswersValue}
use Rattle.asn_fields.specs.Fields.{AnswersField, SameField, next_of}
use Rattle.asn_fields.specs.declared.either.Either.{Either}
use Rattle.asn_fields.specs.declared.either.Either.TheVariants.{First, Second}
use Rattle.asn_fields.specs.declared.next.Next as code

-- the element that is given, as the type after these fields
abbrev pub read_given_behind : TypeTerm → List Value → Standing → Given → Reading Value
read_given_behind type fields s g = read_type s.limits type fields (enclosing s) g.at g.tag g.constructed

-- What a reader answered of the element that is given is what the reading gives after any fields
-- that are the same as these.
abbrev pub AnswersBehind : {R A : Type 0} {s : Ghosts R} → Pull R s → Pull R s → TypeTerm → List Value → (A → Value)
    → Result A ReadError → Type 0
AnswersBehind old new type earlier value result =
    (fields : List Value) (g : Given) → Each Same fields earlier → old.state.error ≡ None → old.state.given ≡ Some g
    → AnswersValue old new (read_given_behind type fields old.state g) value result

-- So it is of a field that is due, by itself, wherever the container was opened,
abbrev pub TakesBehind : {R A : Type 0} {s : Ghosts R} → Pull R s → Pull R s → code.Next → TypeTerm → List Value
    → (A → Value) → Result A ReadError → Type 0
TakesBehind old new next type earlier value result =
    (fields : List Value) → Each Same fields earlier → (outer : Standing) (inside : Enclosing)
    → Inside outer inside old.state (next_of next)
    → AnswersValue old new (read_take outer.limits type fields inside (next_of next)) value result

-- with what stands after it,
abbrev pub RequiredBehind : {R A : Type 0} {s : Ghosts R} → Pull R s → Pull R s → code.Next → code.Next → TypeTerm
    → List Value → (A → Value) → Result A ReadError → Type 0
RequiredBehind old new next next' type earlier value result =
    (fields : List Value) → Each Same fields earlier
    → AnswersField old new next (λ outer inside. read_due outer.limits type fields inside (next_of next)) Same value
    (next_of next') result

-- and of one that may be absent.
abbrev pub OptionalBehind : {R A : Type 0} {s : Ghosts R} → Pull R s → Pull R s → code.Next → code.Next → TypeTerm
    → List Value → (A → Value) → Result (Option A) ReadError → Type 0
OptionalBehind old new next next' type earlier value result =
    (fields : List Value) → Each Same fields earlier
    → AnswersField old new next (λ outer inside. read_optional outer.limits type fields inside (next_of next)) SameField
    (option_map value) (next_of next') result

-- Of values that suit the fields before them, two with one text are the same.
abbrev pub OneTextBehind : {A : Type 0} → (A → Value) → (List Value → A → Bool) → Type 0
OneTextBehind {A} value suits =
    (vs ws : List Value) (x y : A) → Each Same vs ws → suits vs x ≡ true → suits ws y ≡ true
    → der (value x) ≡ der (value y) → Same (value x) (value y)

-- a rule lets it pass
abbrev pub passes : Option Reason → Bool
passes None = true
passes (Some why) = false

-- one of two, which is the first where this says so
abbrev pub suits_as : {A B : Type 0} → Bool → (A → Bool) → (B → Bool) → Either A B → Bool
suits_as is_first first second (First a) = is_first && first a
suits_as is_first first second (Second b) = not is_first && second b

-- one that may be absent
abbrev pub suits_where_there : {A : Type 0} → (A → Bool) → Option A → Bool
suits_where_there suits None = true
suits_where_there suits (Some a) = suits a

-- its value, where it is there, as fields have theirs
abbrev pub value_where_there : {A : Type 0} → (A → Value) → Option (Bor A) → List Value
value_where_there value field = with_field (option_map value (option_copied field)) []
