-- How a run ends over the streams of the program.
use Rattle.std.specs.Prelude.{◌≡◌, ◌⊎◌, ℕ, Bool, List, [], None, Option, Result, false, true}
use Rattle.std.specs.Io.KnownBytes.{Keeps}
use Rattle.tlv_core.specs.declared.sink.WriteError.{WriteError}
use Rattle.x690.specs.Values.{Value}
use Rattle.asn_documents.specs.WrittenValues.{WritesText}
use Rattle.pk_documents.specs.declared.document.Document.{Document}
use Rattle.pk_documents.specs.declared.kind.Kind.{Kind}
use Rattle.commands.specs.Files.{AreSaid, EndsAfter, Entry, has_failed_write, line_after}
use Rattle.commands.specs.declared.question.Compared.{Compared}
use Rattle.commands.specs.declared.question.Compared.TheVariants as compared
use Rattle.commands.specs.declared.names.NamesFault.{NamesFault}
use Rattle.commands.specs.declared.opener.Unopened.{Unopened as Why}
use Rattle.commands.specs.Outcomes.{IsWhole, line_of, words_of}
use Rattle.commands.specs.Replies.{FailedBy, IsSilent, Replied, written_outcome}
use Rattle.commands.specs.declared.files.FilesEnd.{FilesEnd}
use Rattle.commands.specs.declared.files.FilesEnd.TheVariants as ends
use Rattle.commands.specs.declared.task.Task.{Task}
use Rattle.commands.specs.declared.outcome.Outcome.{Outcome}
use Rattle.commands.specs.declared.outcome.Outcome.TheVariants.{Done, NotDer, Noted, Fault, NoKind, Explained, ReadFailed, WriteFailed, Memory}

abbrev pub is_done : Outcome → Bool
is_done Done = true
is_done (NotDer at) = false
is_done Noted = false
is_done (Fault found) = false
is_done (NoKind likely) = false
is_done (Explained found) = false
is_done (ReadFailed at) = false
is_done (WriteFailed count) = false
is_done Memory = false

-- How a run ends whose target is flushed after it: as it ended; or the target isn't flushed after what is whole, and
-- then how many octets are out isn't known.
abbrev pub EndsAs : Outcome → Outcome → Type 0
EndsAs outcome end = (end ≡ outcome) ⊎ (IsWhole outcome × (end ≡ WriteFailed 0))

-- A run over no named file replies so, with the kind that it finds where that isn't told, and then the target is
-- flushed.
abbrev pub AnsweredOf : (Document → Value) → Task → Outcome → Option Kind → Option (List ℕ) → Option (List ℕ)
    → Option (List ℕ) → Option (List ℕ) → Type 0
AnsweredOf value_of task end found before after old new =
    (outcome : Outcome)
    × (out : Option (List ℕ))
    × Replied value_of task None outcome found before after old out
    × Keeps out new
    × EndsAs outcome end

abbrev pub AnsweredAs : (Document → Value) → Task → Outcome → Option (List ℕ) → Option (List ℕ) → Option (List ℕ)
    → Option (List ℕ) → Type 0
AnsweredAs value_of task end before after old new =
    (found : Option Kind) × AnsweredOf value_of task end found before after old new

-- A text is written, or its first octets, and then the target is flushed.
abbrev pub SaysText : List ℕ → Option (List ℕ) → Option (List ℕ) → Outcome → Type 0
SaysText text old new end =
    (count : Result ℕ WriteError)
    × (failed : Bool)
    × (out : Option (List ℕ))
    × WritesText text old out failed count
    × Keeps out new
    × EndsAs (written_outcome count Done) end

-- What a task is answered over a source and a target: how it ends, what is still known of the source and whether it has
-- failed, what the target contains and whether it has failed, and whether it is flushed.
pub record ServedSo (IsAnswered : Type 0) (unread : Bool) (end : Outcome) (old new : Option (List ℕ))
    (unwritten flushed : Bool) : Type 0 where
  pub answered : IsAnswered
  pub silent : IsSilent end → new ≡ old
  pub failed : FailedBy end unread unwritten
  pub whole : IsWhole end → flushed ≡ true

abbrev pub Served : (Document → Value) → Task → Option (List ℕ) → Option (List ℕ) → Bool → Outcome → Option (List ℕ)
    → Option (List ℕ) → Bool → Bool → Type 0
Served value_of task before after unread end old new unwritten flushed =
    ServedSo (AnsweredAs value_of task end before after old new) unread end old new unwritten flushed

-- the same with the kind of the document
abbrev pub ServedOf : (Document → Value) → Task → Option Kind → Option (List ℕ) → Option (List ℕ) → Bool → Outcome
    → Option (List ℕ) → Option (List ℕ) → Bool → Bool → Type 0
ServedOf value_of task found before after unread end old new unwritten flushed =
    ServedSo (AnsweredOf value_of task end found before after old new) unread end old new unwritten flushed

-- How a run over named documents ends whose target is flushed after it: as it ended; or the target isn't flushed, and
-- then how many octets are out isn't known.
abbrev pub FilesEndAs : FilesEnd → FilesEnd → Type 0
FilesEndAs end last = (last ≡ end) ⊎ ((has_failed_write end ≡ false) × (last ≡ ends.WriteFailed 0))

-- What is said of these documents is written, and then the target is flushed.
abbrev pub AnsweredFiles : (Document → Value) → (List ℕ → Option (List ℕ)) → (List ℕ → Why → Type 0)
    → (Bool → Option (List ℕ) → Type 0) → Task → Option (List (List ℕ))
    → (Option (List (List ℕ)) → NamesFault → Type 0) → Option (List ℕ) → Option (List ℕ) → List Entry → FilesEnd
    → Type 0
AnsweredFiles value_of known refuses leaves task list stops old new entries last =
    (end : FilesEnd)
    × (out : Option (List ℕ))
    × AreSaid value_of known refuses leaves task entries
    × EndsAfter (AreSaid value_of known refuses leaves task) stops entries list old out end
    × Keeps out new
    × FilesEndAs end last

-- All of a line is written; or the target has failed, and its first octets are out, or none where it had failed before.
abbrev pub WritesLine : List ℕ → Option (List ℕ) → Option (List ℕ) → Bool → Type 0
WritesLine line old new failed = (count : Result ℕ WriteError) × WritesText line old new failed count

-- the line on standard error of two documents, whose names are shown so
abbrev pub line_of_compared : List ℕ → List ℕ → Compared → List ℕ
line_of_compared first second (compared.Answered status) = []
line_of_compared first second (compared.FirstFailed at) = line_after first (words_of (ReadFailed at))
line_of_compared first second (compared.SecondFailed at) = line_after second (words_of (ReadFailed at))
line_of_compared first second (compared.WriteFailed count) = line_of (WriteFailed count)
line_of_compared first second compared.Memory = line_of Memory
