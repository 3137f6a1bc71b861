-- What a run answers and writes. Octets are known before the call and after it, where those of the source
-- or the target are known.
use Rattle.std.specs.Prelude.{◌≡◌, ◌≤◌, ◌⊎◌, ◌+◌, ◌++◌, ◌&&◌, ℕ, Bool, Err, List, None, Ok, Option, Result, Some, [], codes, cond, false, length, not, take, true}
use Rattle.std.specs.Io.KnownBytes.{Appends, IsAtEnd}
use Rattle.tlv_core.specs.Limits.{Limits}
use Rattle.tlv_core.specs.declared.fault.Fault.{Fault as DocumentFault}
use Rattle.tlv_core.specs.declared.fault.ReadError.{ReadError}
use Rattle.tlv_core.specs.declared.fault.ReadError.TheVariants.{Fault as FaultRead, Read as ReadAt, Memory as MemoryRead}
use Rattle.tlv_core.specs.declared.sink.WriteError.{WriteError}
use Rattle.x690.specs.TypeTerms.{TypeTerm}
use Rattle.x690.specs.Values.{Value}
use Rattle.asn_documents.specs.Checked.{CheckedAs, Unchecked}
use Rattle.asn_documents.specs.Normalised.{NormalisedAs, Took}
use Rattle.asn_documents.specs.ReadValues.{ReadsValue}
use Rattle.asn_documents.specs.WholeInputs.{Followed, RefusedWhole}
use Rattle.asn_documents.specs.WrittenValues.{WritesText}
use Rattle.asn_documents.specs.declared.normalise.NormaliseError.TheVariants.{Read, Write}
use Rattle.pk_documents.specs.Documents.{kind_of}
use Rattle.pk_documents.specs.KindRows.{word_of}
use Rattle.pk_documents.specs.Kinds.{type_of}
use Rattle.pk_documents.specs.RequestParts.{part_of}
use Rattle.pk_documents.specs.declared.document.Document.{Document}
use Rattle.pk_documents.specs.declared.kind.Kind.{Kind}
use Rattle.pk_documents.specs.declared.kind.Kind.TheVariants.{Request}
use Rattle.explain.specs.FoundKinds.{IsKindOf, IsLikely}
use Rattle.explain.specs.Received.{Received}
use Rattle.explain.specs.Reports.{IsReportOf}
use Rattle.explain.specs.Written.{written_text}
use Rattle.explain.specs.declared.profile.Profile.{Profile}
use Rattle.explain.specs.declared.profile.Profile.TheVariants.{General}
use Rattle.explain.specs.declared.received.RequestPart.{RequestPart}
use Rattle.explain.specs.declared.received.RequestPart.TheVariants.{Received as AsReceived, Written}
use Rattle.reports.specs.declared.report.Report.{Report}
use Rattle.pk_show.specs.Shown.{document_lines}
use Rattle.commands.specs.Inputs.{StopsTaking, TakesFirst}
use Rattle.commands.specs.Fronted.{fronted}
use Rattle.commands.specs.Outcomes.{IsWhole, said_verdict}
use Rattle.commands.specs.Reported.{DueOfNoted, DueOfNotedLines, DueOfReport, DueOfShownReport, Unreported, check_text}
use Rattle.commands.specs.declared.task.Action.{Action}
use Rattle.commands.specs.declared.task.Action.TheVariants.{Check, Explain, Normalise, Note, Show, Signed}
use Rattle.commands.specs.declared.task.Noting.{Noting}
use Rattle.commands.specs.declared.task.Task.{Task}
use Rattle.commands.specs.declared.outcome.Outcome.{Outcome}
use Rattle.commands.specs.declared.outcome.Outcome.TheVariants.{Done, NotDer, Noted, Fault, NoKind, Explained as ExplainedFault, ReadFailed, WriteFailed, Memory}

-- A value was taken, all of the input, and its DER text appended.
abbrev pub DoneWith : Limits → TypeTerm → Option (List ℕ) → Option (List ℕ) → Option (List ℕ) → Option (List ℕ) → Type 0
DoneWith limits type before after old new =
    ((value : Value) × (taken : ℕ) × (written : ℕ) × NormalisedAs limits type value before after old new taken written)
    × IsAtEnd after

-- Done is the whole of normalising: all of the input was taken. A fault is the answer to the octets known, which begin
-- with no spelling, or octets follow one; where a read failed, the octets before are too few, or nothing is known of
-- what follows a value; where a write failed, the first octets of the text are out, so many.
abbrev pub RepliedTo : Limits → TypeTerm → Outcome → Option (List ℕ) → Option (List ℕ) → Option (List ℕ)
    → Option (List ℕ) → Type 0
RepliedTo limits type Done before after old new = DoneWith limits type before after old new
RepliedTo limits type (Fault found) before after old new =
    RefusedWhole limits type (Read (FaultRead found)) before after old new
RepliedTo limits type (ReadFailed at) before after old new =
    RefusedWhole limits type (Read (ReadAt at)) before after old new
RepliedTo limits type (WriteFailed count) before after old new =
    RefusedWhole limits type (Write (record { written = count })) before after old new
RepliedTo limits type Memory before after old new = RefusedWhole limits type (Read MemoryRead) before after old new
RepliedTo limits type (NotDer at) before after old new = ⊥
RepliedTo limits type Noted before after old new = ⊥
RepliedTo limits type (NoKind likely) before after old new = ⊥
RepliedTo limits type (ExplainedFault found) before after old new = ⊥

-- Why nothing was read that is all of the input.
abbrev pub Unreadable : Limits → TypeTerm → ReadError → Option (List ℕ) → Option (List ℕ) → Type 0
Unreadable limits type error before after =
    Unchecked limits type error before after ⊎ Followed limits type error before after

-- What a run answers that writes a text which `Due` names, by the outcome where all of it is out: the text is out, or,
-- where the writer failed, so many of its first octets. Where there is no text, `Stopped` says why.
abbrev pub RepliedAs : (ReadError → Type 0) → (Outcome → List ℕ → Type 0) → Outcome → Option (List ℕ)
    → Option (List ℕ) → Type 0
RepliedAs Stopped Due Done old new = (text : List ℕ) × Due Done text × Appends old new text
RepliedAs Stopped Due (NotDer at) old new = (text : List ℕ) × Due (NotDer at) text × Appends old new text
RepliedAs Stopped Due Noted old new = (text : List ℕ) × Due Noted text × Appends old new text
RepliedAs Stopped Due (ExplainedFault found) old new =
    (text : List ℕ) × Due (ExplainedFault found) text × Appends old new text
RepliedAs Stopped Due (WriteFailed count) old new =
    (text : List ℕ) × (whole : Outcome) × Due whole text × (count ≤ length text) × Appends old new (take count text)
RepliedAs Stopped Due (Fault found) old new = Stopped (FaultRead found)
RepliedAs Stopped Due (NoKind likely) old new = ⊥
RepliedAs Stopped Due (ReadFailed at) old new = Stopped (ReadAt at)
RepliedAs Stopped Due Memory old new = Stopped MemoryRead

-- So a run answers that reads a document as it comes.
abbrev pub RepliedWith : Limits → TypeTerm → (Outcome → List ℕ → Type 0) → Outcome → Option (List ℕ) → Option (List ℕ)
    → Option (List ℕ) → Option (List ℕ) → Type 0
RepliedWith limits type Due outcome before after old new =
    RepliedAs (λ error. Unreadable limits type error before after) Due outcome old new

-- A value was taken, all of the input, and this is due of it.
abbrev pub DueOfValue : Limits → TypeTerm → (Value → List ℕ) → Option (List ℕ) → Option (List ℕ) → Outcome → List ℕ
    → Type 0
DueOfValue limits type text_of before after outcome text =
    (value : Value)
    × (taken : ℕ)
    × Took limits type value before after taken
    × IsAtEnd after
    × (outcome ≡ Done)
    × (text ≡ text_of value)

-- how a check ends, by the place where the document isn't in DER
abbrev pub checked_outcome : Option ℕ → Outcome
checked_outcome None = Done
checked_outcome (Some at) = NotDer at

-- A value was taken, all of the input, and it was checked.
abbrev pub DueOfCheck : Bool → Limits → TypeTerm → Option (List ℕ) → Option (List ℕ) → Outcome → List ℕ → Type 0
DueOfCheck quiet limits type before after outcome text =
    (value : Value)
    × (taken : ℕ)
    × (place : Option ℕ)
    × CheckedAs limits type value before after taken place
    × IsAtEnd after
    × (outcome ≡ checked_outcome place)
    × (text ≡ said_verdict quiet place)

-- A document was read, all of the input, and its lines are due.
abbrev pub DueOfShow : (Document → Value) → Limits → Kind → Option (List ℕ) → Option (List ℕ) → Outcome → List ℕ
    → Type 0
DueOfShow value_of limits kind before after outcome text =
    (document : Document)
    × (taken : ℕ)
    × (kind_of document ≡ kind)
    × ReadsValue limits (type_of kind) (value_of document) before after taken
    × IsAtEnd after
    × (outcome ≡ Done)
    × (text ≡ document_lines document)

-- The first octets were taken, one more than the limit at most, and this is due of them.
abbrev pub DueOfOctets : Limits → (List ℕ → Outcome → List ℕ → Type 0) → Option (List ℕ) → Option (List ℕ) → Outcome
    → List ℕ → Type 0
DueOfOctets limits Due before after outcome text =
    (octets : List ℕ) × TakesFirst (limits.octets + 1) before after octets × Due octets outcome text

-- The first octets were taken, one more than the limit at most, and this is the report of them, with the notes of the
-- profile.
abbrev pub IsReportOfInput : Profile → Limits → Kind → Option (List ℕ) → Option (List ℕ) → Report → Type 0
IsReportOfInput profile limits kind before after report =
    (octets : List ℕ) × TakesFirst (limits.octets + 1) before after octets
    × IsReportOf profile limits kind octets report

-- Why nothing is due of all of the input: the octets that were taken are refused, or not all could be taken.
abbrev pub StopsShowing : Limits → Kind → ReadError → Option (List ℕ) → Option (List ℕ) → Type 0
StopsShowing limits kind error before after =
    StopsTaking (limits.octets + 1) error before after
    ⊎ ((octets : List ℕ) × TakesFirst (limits.octets + 1) before after octets × Unreported limits kind octets error)

-- The text is due that the report of all of the input has, with the notes of the profile.
abbrev pub RepliedReporting : (Report → List ℕ) → Profile → Limits → Kind → Outcome → Option (List ℕ)
    → Option (List ℕ) → Option (List ℕ) → Option (List ℕ) → Type 0
RepliedReporting text_of profile limits kind outcome before after old new =
    RepliedAs (λ error. StopsTaking (limits.octets + 1) error before after)
    (DueOfOctets limits (DueOfReport text_of profile limits kind) before after) outcome old new

-- What `show` writes: lines, or the report as JSON.
abbrev pub RepliedShowing : (Document → Value) → Bool → Option (List ℕ) → Limits → Kind → Outcome → Option (List ℕ)
    → Option (List ℕ) → Option (List ℕ) → Option (List ℕ) → Type 0
RepliedShowing value_of false file limits kind outcome before after old new =
    RepliedWith limits (type_of kind) (DueOfShow value_of limits kind before after) outcome before after old new
RepliedShowing value_of true file limits kind outcome before after old new =
    RepliedAs (λ error. StopsShowing limits kind error before after)
    (DueOfOctets limits (DueOfShownReport file limits kind) before after) outcome old new

-- What `check` writes: a line, or JSON.
abbrev pub RepliedChecking : Bool → Bool → ℕ → Option (List ℕ) → Limits → Kind → Outcome → Option (List ℕ)
    → Option (List ℕ) → Option (List ℕ) → Option (List ℕ) → Type 0
RepliedChecking false quiet places file limits kind outcome before after old new =
    RepliedWith limits (type_of kind) (DueOfCheck quiet limits (type_of kind) before after) outcome before after old new
RepliedChecking true quiet places file limits kind outcome before after old new =
    RepliedReporting (check_text quiet places file) General limits kind outcome before after old new

-- What `check` writes with notes: lines of what isn't refused, or JSON.
abbrev pub RepliedNoting : Bool → Noting → Option (List ℕ) → Limits → Kind → Outcome → Option (List ℕ)
    → Option (List ℕ) → Option (List ℕ) → Option (List ℕ) → Type 0
RepliedNoting false noting file limits kind outcome before after old new =
    RepliedAs (λ error. StopsShowing limits kind error before after)
    (DueOfOctets limits (DueOfNotedLines noting limits kind) before after) outcome old new
RepliedNoting true noting file limits kind outcome before after old new =
    RepliedAs (λ error. StopsTaking (limits.octets + 1) error before after)
    (DueOfOctets limits (DueOfNoted noting file limits kind) before after) outcome old new

-- What `signed` writes as it came: the octets of certificationRequestInfo, of those that were taken.
abbrev pub DueOfReceived : Limits → List ℕ → Outcome → List ℕ → Type 0
DueOfReceived limits octets outcome text = (outcome ≡ Done) × Received limits octets text

abbrev pub RepliedReceived : Limits → Outcome → Option (List ℕ) → Option (List ℕ) → Option (List ℕ)
    → Option (List ℕ) → Type 0
RepliedReceived limits outcome before after old new =
    RepliedAs (λ error. StopsShowing limits Request error before after)
    (DueOfOctets limits (DueOfReceived limits) before after) outcome old new

-- What `signed` writes: a part of what a request says, or what came.
abbrev pub RepliedSigning : RequestPart → Limits → Outcome → Option (List ℕ) → Option (List ℕ) → Option (List ℕ)
    → Option (List ℕ) → Type 0
RepliedSigning (Written part) limits outcome before after old new =
    RepliedWith limits (type_of Request)
    (DueOfValue limits (type_of Request) (part_of part) before after) outcome before after old new
RepliedSigning AsReceived limits outcome before after old new = RepliedReceived limits outcome before after old new

-- by the action, the name of the file, if it has one, and the values of documents; `Signed` reads a request
abbrev pub RepliedBy : (Document → Value) → Action → Option (List ℕ) → Kind → Limits → Outcome → Option (List ℕ)
    → Option (List ℕ) → Option (List ℕ) → Option (List ℕ) → Type 0
RepliedBy value_of Normalise file kind limits outcome before after old new =
    RepliedTo limits (type_of kind) outcome before after old new
RepliedBy value_of (Show json) file kind limits outcome before after old new =
    RepliedShowing value_of json file limits kind outcome before after old new
RepliedBy value_of (Check json quiet places) file kind limits outcome before after old new =
    RepliedChecking json quiet places file limits kind outcome before after old new
RepliedBy value_of (Note noting) file kind limits outcome before after old new =
    RepliedNoting noting.json noting file limits kind outcome before after old new
RepliedBy value_of (Explain form) file kind limits outcome before after old new =
    RepliedReporting (written_text form file) form.profile limits kind outcome before after old new
RepliedBy value_of (Signed part) file kind limits outcome before after old new =
    RepliedSigning part limits outcome before after old new

-- the outcome of writing what is due, `whole` where all of it is out
abbrev pub written_outcome : Result ℕ WriteError → Outcome → Outcome
written_outcome (Ok count) whole = whole
written_outcome (Err error) whole = WriteFailed error.written

-- the outcome of a document that was not read
abbrev pub unread_outcome : ReadError → Outcome
unread_outcome (FaultRead found) = Fault found
unread_outcome (ReadAt at) = ReadFailed at
unread_outcome MemoryRead = Memory

-- ---- of a kind that is to be found

-- lines, each after the word of a kind
abbrev pub after_word : Kind → List ℕ → List ℕ
after_word kind lines = fronted (word_of kind ++ codes ": ") true lines

-- the lines that an action writes don't say the kind
abbrev pub is_unnamed : Action → Bool
is_unnamed (Show json) = false
is_unnamed (Check json quiet places) = not json
is_unnamed (Note noting) = not noting.json
is_unnamed (Explain form) = false
is_unnamed Normalise = false
is_unnamed (Signed part) = false

-- what is written of a document, after its kind where the lines don't say that
abbrev pub said_of_kind : Action → Kind → List ℕ → List ℕ
said_of_kind action kind written = cond (is_unnamed action) (after_word kind written) written

-- The task over these octets as those of a document of this kind ends so, and this text is made of what it writes in
-- memory; or memory ran out.
abbrev pub SaidOfOne : (Document → Value) → Action → Option (List ℕ) → Limits → List ℕ → Kind → (List ℕ → List ℕ)
    → Outcome → List ℕ → Type 0
SaidOfOne value_of action file limits octets kind text_of end text =
    (end ≡ Memory)
    ⊎ ((written : List ℕ)
    × (after : Option (List ℕ))
    × RepliedBy value_of action file kind limits end (Some octets) after (Some []) (Some written)
    × (text ≡ text_of written))

-- an action writes the lines of a report, which may be that of a likely kind
abbrev pub is_report : Action → Bool
is_report (Show json) = false
is_report (Check json quiet places) = false
is_report (Note noting) = false
is_report (Explain form) = not form.json && not form.brief
is_report Normalise = false
is_report (Signed part) = false

-- a report after a line that says that octets are of no kind, and an empty one
abbrev pub after_none : List ℕ → List ℕ
after_none written = codes "none of these\n\n" ++ written

-- The octets are of no kind: an action that writes a report writes that of the likely one, and others nothing.
abbrev pub SaidOfLikely : (Document → Value) → Action → Option (List ℕ) → Limits → List ℕ → Kind × DocumentFault → Bool
    → Outcome → List ℕ → Type 0
SaidOfLikely value_of action file limits octets likely false end text = end ≡ NoKind (Some likely)
SaidOfLikely value_of action file limits octets likely true end text =
    SaidOfOne value_of action file limits octets likely.0 after_none end text

abbrev pub SaidIfLikely : (Document → Value) → Action → Option (List ℕ) → Limits → List ℕ
    → Option (Kind × DocumentFault) → Outcome → List ℕ → Type 0
SaidIfLikely value_of action file limits octets None end text = end ≡ NoKind None
SaidIfLikely value_of action file limits octets (Some likely) end text =
    SaidOfLikely value_of action file limits octets likely (is_report action) end text

abbrev pub SaidOfNone : (Document → Value) → Action → Option (List ℕ) → Limits → List ℕ → Outcome → List ℕ → Type 0
SaidOfNone value_of action file limits octets end text =
    (end ≡ Memory)
    ⊎ ((likely : Option (Kind × DocumentFault))
    × IsLikely limits octets likely
    × SaidIfLikely value_of action file limits octets likely end text)

-- of octets by the kind of which they are a document
abbrev pub SaidBy : (Document → Value) → Action → Option (List ℕ) → Limits → List ℕ → Option Kind → Outcome → List ℕ
    → Type 0
SaidBy value_of action file limits octets None end text = SaidOfNone value_of action file limits octets end text
SaidBy value_of action file limits octets (Some kind) end text =
    SaidOfOne value_of action file limits octets kind (said_of_kind action kind) end text

-- The kind is found, and this is said by it; or memory ran out.
abbrev pub SaidOfAny : (Document → Value) → Action → Option (List ℕ) → Limits → List ℕ → Option Kind → Outcome → List ℕ
    → Type 0
SaidOfAny value_of action file limits octets found end text =
    ((end ≡ Memory) × (found ≡ None))
    ⊎ (IsKindOf limits octets found × SaidBy value_of action file limits octets found end text)

-- A text is written where it is whole, or its first octets; and otherwise nothing.
abbrev pub WritesWhole : Outcome → List ℕ → Outcome → Option (List ℕ) → Option (List ℕ) → Type 0
WritesWhole end text outcome old new =
    (IsWhole end
    × ((count : Result ℕ WriteError) × (failed : Bool) × (outcome ≡ written_outcome count end)
    × WritesText text old new failed count))
    ⊎ ((IsWhole end → ⊥) × (outcome ≡ end) × (new ≡ old))

-- What a run answers that finds the kind by all of the octets, of which it takes one more than the limit at most, and
-- the kind.
abbrev pub RepliedAny : (Document → Value) → Action → Option (List ℕ) → Limits → Outcome → Option Kind
    → Option (List ℕ) → Option (List ℕ) → Option (List ℕ) → Option (List ℕ) → Type 0
RepliedAny value_of action file limits outcome found before after old new =
    ((error : ReadError) × StopsTaking (limits.octets + 1) error before after × (outcome ≡ unread_outcome error)
    × (found ≡ None) × (new ≡ old))
    ⊎ ((octets : List ℕ)
    × TakesFirst (limits.octets + 1) before after octets
    × (end : Outcome)
    × (text : List ℕ)
    × SaidOfAny value_of action file limits octets found end text
    × WritesWhole end text outcome old new)

-- by the kind of the document, where that is told, and otherwise with the one that is found
abbrev pub RepliedOn : (Document → Value) → Action → Option (List ℕ) → Option Kind → Limits → Outcome → Option Kind
    → Option (List ℕ) → Option (List ℕ) → Option (List ℕ) → Option (List ℕ) → Type 0
RepliedOn value_of action file (Some kind) limits outcome found before after old new =
    RepliedBy value_of action file kind limits outcome before after old new × (found ≡ Some kind)
RepliedOn value_of action file None limits outcome found before after old new =
    RepliedAny value_of action file limits outcome found before after old new

abbrev pub Replied : (Document → Value) → Task → Option (List ℕ) → Outcome → Option Kind → Option (List ℕ)
    → Option (List ℕ) → Option (List ℕ) → Option (List ℕ) → Type 0
Replied value_of task file outcome found before after old new =
    RepliedOn value_of task.action file task.kind task.limits outcome found before after old new

-- What `normalise` replies is `RepliedTo`, whatever file and values of documents are named: whoever relies on that
-- action alone reads no other one.
abbrev pub NormaliseReplies : Type 0
NormaliseReplies =
    (value_of : Document → Value) (kind : Kind) (limits : Limits) (file : Option (List ℕ)) (outcome : Outcome)
    (found : Option Kind) (before after old new : Option (List ℕ))
    → Replied value_of (record { action = Normalise; kind = Some kind; limits = limits }) file outcome found before after
    old new
    → RepliedTo limits (type_of kind) outcome before after old new

-- it says that nothing is written
abbrev pub IsSilent : Outcome → Type 0
IsSilent Done = ⊥
IsSilent (NotDer at) = ⊥
IsSilent Noted = ⊥
IsSilent (Fault found) = Unit {0}
IsSilent (NoKind likely) = Unit {0}
IsSilent (ExplainedFault found) = ⊥
IsSilent (ReadFailed at) = Unit {0}
IsSilent (WriteFailed count) = ⊥
IsSilent Memory = Unit {0}

-- whether the source and the target have failed, by the outcome
abbrev pub FailedBy : Outcome → Bool → Bool → Type 0
FailedBy Done source target = (source ≡ false) × (target ≡ false)
FailedBy (NotDer at) source target = (source ≡ false) × (target ≡ false)
FailedBy Noted source target = (source ≡ false) × (target ≡ false)
FailedBy (Fault found) source target = (source ≡ false) × (target ≡ false)
FailedBy (NoKind likely) source target = (source ≡ false) × (target ≡ false)
FailedBy (ExplainedFault found) source target = (source ≡ false) × (target ≡ false)
FailedBy (ReadFailed at) source target = (source ≡ true) × (target ≡ false)
FailedBy (WriteFailed count) source target = (source ≡ false) × (target ≡ true)
FailedBy Memory source target = (source ≡ false) × (target ≡ false)

-- What writing a text comes to, by the octets before and after: `whole_of` where all of it is out. Where there is no
-- text, `why` says how the run ends, and nothing changes.
abbrev pub WroteText : {S E : Type 0} → (S → List ℕ) → (S → Outcome) → (E → Outcome) → Result S E → Outcome
    → Option (List ℕ) → Option (List ℕ) → Bool → Type 0 → Type 0
WroteText octets_of whole_of why (Ok text) outcome old new failed unchanged =
    (count : Result ℕ WriteError)
    × (outcome ≡ written_outcome count (whole_of text))
    × WritesText (octets_of text) old new failed count
WroteText octets_of whole_of why (Err error) outcome old new failed unchanged = (outcome ≡ why error) × unchanged
