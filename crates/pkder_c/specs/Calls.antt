-- What each call answers and writes.
use Rattle.std.specs.Prelude.{◌≡◌, ◌<◌, ◌≤◌, ◌+◌, ◌*◌, ◌⊎◌, ℕ, Bool, List, ◌∷◌, ◌++◌, Option, drop, length}
use Rattle.tlv_core.specs.Limits.{IsLimits, Limits}
use Rattle.tlv_core.specs.Reasons.{name_of, number_of}
use Rattle.tlv_core.specs.declared.reason.Reason.{Reason}
use Rattle.x690.specs.Values.{Value}
use Rattle.pk_documents.specs.Encodings.{IsEncoding}
use Rattle.pk_documents.specs.KindRows.{IsKindNumber, number_of as kind_number}
use Rattle.pk_documents.specs.Kinds.{type_of}
use Rattle.pk_documents.specs.declared.document.Document.{Document}
use Rattle.pk_documents.specs.declared.kind.Kind.{Kind}
use Rattle.pk_documents.specs.declared.kind.Kind.TheVariants.{Request}
use Rattle.explain.specs.Written.{IsFieldOf, IsWritten}
use Rattle.explain.specs.declared.received.RequestPart.{RequestPart}
use Rattle.explain.specs.declared.written.Form.{Form}
use Rattle.reports.specs.declared.report.Answer.{Answer}
use Rattle.pkder_c.specs.Numbers.{IsFormNumber, IsFormOf, IsPartNumber, IsReasonNumber, part_number}
use Rattle.pkder_c.specs.Outcomes.{accepted_outcome, checked_outcome, compared_outcome, refused_outcome, reported_outcome, too_small_outcome, uncompared_outcome, unreported_outcome}
use Rattle.pkder_c.specs.Wholes.{IsWhole, WholeChecked, WholeFault, WholeLines, WholePart, WholeSame}
use Rattle.pkder_c.specs.declared.outcome.PkderOutcome.{PkderOutcome}
use Rattle.pkder_c.specs.declared.refusal.PairRefusal.{PairRefusal}
use Rattle.pkder_c.specs.declared.refusal.PairRefusal.TheVariants as pairs
use Rattle.pkder_c.specs.declared.refusal.Refusal.{Refusal}
use Rattle.pkder_c.specs.declared.refusal.Refusal.TheVariants as refusals

-- A kind has the number, the limits are limits, and this holds of both.
abbrev pub ForKind : ℕ → Limits → (Limits → Kind → Type 0) → Type 0
ForKind number limits P = (kind : Kind) × (kind_number kind ≡ number) × IsLimits limits × P limits kind

-- So with the parts of a request.
abbrev pub ForPart : ℕ → Limits → (Limits → RequestPart → Type 0) → Type 0
ForPart number limits P = (part : RequestPart) × (part_number part ≡ number) × IsLimits limits × P limits part

-- The octets are a document, and this is its DER text, which twice as much room always has room for.
abbrev pub IsText : ℕ → Limits → List ℕ → List ℕ → Type 0
IsText number limits given text =
    ForKind number limits
    (λ allowed kind. IsEncoding allowed (type_of kind) given text × (length text ≤ 2 * length given))

-- They are one, and this is the first place where they aren't in DER.
abbrev pub IsPlace : ℕ → Limits → List ℕ → Option ℕ → Type 0
IsPlace number limits given place =
    ForKind number limits (λ allowed kind. WholeChecked allowed (type_of kind) given place)

-- The octets are two documents, and this says whether they are the same.
abbrev pub IsSame : ℕ → Limits → List ℕ → List ℕ → Bool → Type 0
IsSame number limits first second same =
    ForKind number limits (λ allowed kind. WholeSame allowed (type_of kind) first second same)

-- They are one, and these are its lines.
abbrev pub AreLines : (Document → Value) → ℕ → Limits → List ℕ → List ℕ → Type 0
AreLines value_of number limits given text =
    ForKind number limits (λ allowed kind. WholeLines value_of allowed kind given text)

-- They are a request, and this is the part of this number.
abbrev pub IsPartText : ℕ → Limits → List ℕ → List ℕ → Type 0
IsPartText number limits given text = ForPart number limits (λ allowed part. WholePart allowed part given text)

-- The text is the report of the octets in the form of this number, and the answer the one in it.
abbrev pub IsReport : ℕ → ℕ → Limits → List ℕ → List ℕ → Answer → Type 0
IsReport form number limits given text answer =
    ForKind number limits
    (λ allowed kind. (wanted : Form) × IsFormOf form wanted × IsWritten wanted allowed kind given text answer)

-- The text is the path of the field that the report of the octets is about, and the answer the one in it.
abbrev pub IsField : ℕ → Limits → List ℕ → List ℕ → Answer → Type 0
IsField number limits given text answer =
    ForKind number limits (λ allowed kind. IsFieldOf allowed kind given text answer)

-- Why there is none: the call is bad exactly where no kind has the number or the limits are none.
abbrev pub KindRefused : ℕ → Limits → List ℕ → Refusal → Type 0
KindRefused number limits given refusals.Call = IsKindNumber number → IsLimits limits → ⊥
KindRefused number limits given (refusals.Fault found) =
    ForKind number limits (λ allowed kind. WholeFault allowed (type_of kind) found given)
KindRefused number limits given refusals.Memory = ForKind number limits (λ allowed kind. Unit {0})

-- Of two documents: the call is bad exactly there, too. Else the first one is refused; or it is a document, and the
-- second one is refused.
abbrev pub PairRefused : ℕ → Limits → List ℕ → List ℕ → PairRefusal → Type 0
PairRefused number limits first second pairs.Call = IsKindNumber number → IsLimits limits → ⊥
PairRefused number limits first second (pairs.First found) =
    ForKind number limits (λ allowed kind. WholeFault allowed (type_of kind) found first)
PairRefused number limits first second (pairs.Second found) =
    ForKind number limits
    (λ allowed kind. IsWhole allowed (type_of kind) first × WholeFault allowed (type_of kind) found second)
PairRefused number limits first second pairs.Memory = ForKind number limits (λ allowed kind. Unit {0})

abbrev pub PartRefused : ℕ → Limits → List ℕ → Refusal → Type 0
PartRefused number limits given refusals.Call = IsPartNumber number → IsLimits limits → ⊥
PartRefused number limits given (refusals.Fault found) =
    ForPart number limits (λ allowed part. WholeFault allowed (type_of Request) found given)
PartRefused number limits given refusals.Memory = ForPart number limits (λ allowed part. Unit {0})

-- Of a report: the call is bad exactly where no form or kind has its number or the limits are none. Else there is one,
-- where there is memory for it.
abbrev pub ReportRefused : ℕ → ℕ → Limits → Refusal → Type 0
ReportRefused form number limits refusals.Call = IsFormNumber form → IsKindNumber number → IsLimits limits → ⊥
ReportRefused form number limits (refusals.Fault found) = ⊥
ReportRefused form number limits refusals.Memory = ForKind number limits (λ allowed kind. IsFormNumber form)

-- So of the field of one.
abbrev pub FieldRefused : ℕ → Limits → Refusal → Type 0
FieldRefused number limits refusals.Call = IsKindNumber number → IsLimits limits → ⊥
FieldRefused number limits (refusals.Fault found) = ⊥
FieldRefused number limits refusals.Memory = ForKind number limits (λ allowed kind. Unit {0})

-- The text stands where the room `old` began, and the rest of the room is as it was; or there is too little room, which
-- is shown, and all of it is as it was.
pub record Put (text : List ℕ) (taken : ℕ) (old new : List ℕ) (outcome : PkderOutcome) : Type 0 where
  pub fits : length text ≤ length old
      → (outcome ≡ accepted_outcome taken (length text)) × (new ≡ text ++ drop (length text) old)
  pub short : length old < length text → (outcome ≡ too_small_outcome taken (length text)) × (new ≡ old)

-- So with a report, and the answer in it.
pub record PutReport (text : List ℕ) (answer : Answer) (taken : ℕ) (old new : List ℕ) (outcome : PkderOutcome) : Type 0
  where
    pub fits : length text ≤ length old
        → (outcome ≡ reported_outcome taken answer (length text)) × (new ≡ text ++ drop (length text) old)
    pub short : length old < length text → (outcome ≡ unreported_outcome taken answer (length text)) × (new ≡ old)

-- A text that is due was put; or the octets are refused, for a reason that holds and is shown,
-- and the room is as it was.
abbrev pub Wrote : (List ℕ → Type 0) → (Refusal → Type 0) → ℕ → List ℕ → List ℕ → PkderOutcome → Type 0
Wrote Due Refused taken old new outcome =
    ((text : List ℕ) × Due text × Put text taken old new outcome)
    ⊎ ((refusal : Refusal) × Refused refusal × (outcome ≡ refused_outcome refusal) × (new ≡ old))

-- A report was put; or the call is refused, for a reason that holds and is shown, and the room is as it was.
abbrev pub Reported : (List ℕ → Answer → Type 0) → (Refusal → Type 0) → ℕ → List ℕ → List ℕ → PkderOutcome → Type 0
Reported Due Refused taken old new outcome =
    ((text : List ℕ) × (answer : Answer) × Due text answer × PutReport text answer taken old new outcome)
    ⊎ ((refusal : Refusal) × Refused refusal × (outcome ≡ refused_outcome refusal) × (new ≡ old))

-- What was found is shown; or the octets are refused, for a reason that holds and is shown.
abbrev pub Checked : (Option ℕ → Type 0) → (Refusal → Type 0) → ℕ → PkderOutcome → Type 0
Checked Found Refused taken outcome =
    ((place : Option ℕ) × Found place × (outcome ≡ checked_outcome taken place))
    ⊎ ((refusal : Refusal) × Refused refusal × (outcome ≡ refused_outcome refusal))

-- Whether two documents are the same is shown; or why that isn't known, for a reason that holds.
abbrev pub Compared : (Bool → Type 0) → (PairRefusal → Type 0) → PkderOutcome → Type 0
Compared Found Refused outcome =
    ((same : Bool) × Found same × (outcome ≡ compared_outcome same))
    ⊎ ((refusal : PairRefusal) × Refused refusal × (outcome ≡ uncompared_outcome refusal))

-- The name of a reason and an octet 0, where there is room for both.
pub record NamesReason (number : ℕ) (old new : List ℕ) (size : ℕ) : Type 0 where
  pub reason : Reason
  pub reason_is : number_of reason ≡ number
  pub size_is : size ≡ length (name_of reason)
  pub fits : size < length old → new ≡ name_of reason ++ 0 ∷ drop (size + 1) old
  pub short : length old ≤ size → new ≡ old

pub record NamesNothing (number : ℕ) (old new : List ℕ) (size : ℕ) : Type 0 where
  pub none : IsReasonNumber number → ⊥
  pub size_is : size ≡ 0
  pub same : new ≡ old

abbrev pub Named : ℕ → List ℕ → List ℕ → ℕ → Type 0
Named number old new size = NamesReason number old new size ⊎ NamesNothing number old new size
