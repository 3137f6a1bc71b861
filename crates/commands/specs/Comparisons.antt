-- What two documents are to each other, as it is answered and written.
use Rattle.std.specs.Prelude.{Bool, List, Option, [], codes, false, length, take, true, ℕ, ◌+◌, ◌++◌, ◌≡◌, ◌≤◌, ◌⊎◌}
use Rattle.std.specs.Io.KnownBytes.{Appends, Keeps}
use Rattle.tlv_core.specs.Limits.{Limits}
use Rattle.tlv_core.specs.declared.fault.ReadError.{ReadError}
use Rattle.tlv_core.specs.declared.fault.ReadError.TheVariants.{Fault as FaultRead, Memory as MemoryRead, Read as ReadAt}
use Rattle.x690.specs.Values.{Value}
use Rattle.pk_documents.specs.declared.document.Document.{Document}
use Rattle.pk_documents.specs.KindRows.{is_key}
use Rattle.pk_documents.specs.declared.kind.Kind.{Kind}
use Rattle.comparison.specs.Written.{IsWritten}
use Rattle.comparison.specs.declared.same.Style.{Style}
use Rattle.comparison.specs.declared.same.Style.TheVariants.{Json, Text}
use Rattle.comparison.specs.declared.sameness.Sameness.{Sameness}
use Rattle.comparison.specs.declared.sameness.Sameness.TheVariants as documents
use Rattle.comparison.specs.KeySameness.{AreCompared, AreRefusedKeys}
use Rattle.comparison.specs.declared.verdict.KeySameness.{KeySameness}
use Rattle.comparison.specs.declared.verdict.KeySameness.TheVariants as keys
use Rattle.commands.specs.Inputs.{StopsTaking, TakesFirst}
use Rattle.commands.specs.Names.{file_name, shown_name}
use Rattle.commands.specs.Outcomes.{line_feed}
use Rattle.commands.specs.declared.question.Compared.{Compared}
use Rattle.commands.specs.declared.question.Compared.TheVariants.{Answered, FirstFailed, Memory, SecondFailed, WriteFailed}
use Rattle.commands.specs.declared.question.Comparison.{Comparison}
use Rattle.commands.specs.declared.question.Question.{Question}
use Rattle.commands.specs.declared.question.Question.TheVariants as questions

-- ---- the statuses, as of `cmp` and `diff`

abbrev pub sameness_status : Sameness → ℕ
sameness_status documents.Same = 0
sameness_status documents.Another = 1
sameness_status (documents.Refused fault other) = 2

abbrev pub key_status : KeySameness → ℕ
key_status keys.Same = 0
key_status keys.Another = 1
key_status keys.NotCompared = 2
key_status (keys.Refused fault other) = 2

abbrev pub compared_status : Compared → ℕ
compared_status (Answered status) = status
compared_status (FirstFailed at) = 3
compared_status (SecondFailed at) = 3
compared_status (WriteFailed count) = 3
compared_status Memory = 3

-- ---- what is written

-- After what is shown of two private keys that aren't the same document stands whether they are the same key.
abbrev pub note_by : Sameness → Kind → Bool
note_by documents.Same kind = false
note_by documents.Another kind = is_key kind
note_by (documents.Refused fault other) kind = false

abbrev pub has_note : Style → Sameness → Kind → Bool
has_note Text sameness kind = note_by sameness kind
has_note Json sameness kind = false

-- that note, by the answer and the line that says it
abbrev pub key_note : KeySameness → List ℕ → List ℕ
key_note keys.Same line = codes "private key: the same octets" ++ line_feed
key_note keys.Another line = codes "private key: other octets" ++ line_feed
key_note keys.NotCompared line = codes "private key: " ++ line
key_note (keys.Refused fault other) line = []

-- The answer is what the private keys are to each other, and the text says it.
abbrev pub IsKeyAnswer : (Document → Value) → Limits → Kind → Kind → List ℕ → List ℕ → List ℕ → List ℕ → List ℕ
    → KeySameness → Type 0
IsKeyAnswer value_of limits kind other_kind name other first second text answer =
    AreCompared value_of limits kind other_kind first second text answer
    ⊎ AreRefusedKeys value_of limits kind other_kind name other first second text answer

-- The note on two documents, where there is one.
abbrev pub IsNote : Bool → (Document → Value) → Limits → Kind → List ℕ → List ℕ → List ℕ → List ℕ → List ℕ → Type 0
IsNote false value_of limits kind name other first second note = note ≡ []
IsNote true value_of limits kind name other first second note =
    (line : List ℕ) × (answer : KeySameness)
    × IsKeyAnswer value_of limits kind kind name other first second line answer
    × (note ≡ key_note answer line)

-- What two documents are to each other, with the note.
abbrev pub AnswersDocument : (Document → Value) → Style → Limits → Kind → List ℕ → List ℕ → List ℕ → List ℕ → ℕ
    → List ℕ → Type 0
AnswersDocument value_of form limits kind name other first second status text =
    (sameness : Sameness) × (first_text : List ℕ) × (note : List ℕ)
    × IsWritten form limits kind name other first second first_text sameness
    × IsNote (has_note form sameness kind) value_of limits kind name other first second note
    × (status ≡ sameness_status sameness)
    × (text ≡ first_text ++ note)

abbrev pub AnswersKey : (Document → Value) → Limits → Kind → Kind → List ℕ → List ℕ → List ℕ → List ℕ → ℕ → List ℕ
    → Type 0
AnswersKey value_of limits kind other_kind name other first second status text =
    (answer : KeySameness)
    × IsKeyAnswer value_of limits kind other_kind name other first second text answer
    × (status ≡ key_status answer)

abbrev pub AnswersQuestion : (Document → Value) → Question → Limits → Kind → Kind → List ℕ → List ℕ → List ℕ → List ℕ
    → ℕ → List ℕ → Type 0
AnswersQuestion value_of (questions.Document form) limits kind other_kind name other first second status text =
    AnswersDocument value_of form limits kind name other first second status text
AnswersQuestion value_of questions.Key limits kind other_kind name other first second status text =
    AnswersKey value_of limits kind other_kind name other first second status text

-- a name as the answer has it: JSON escapes by itself
abbrev pub said_name : Question → List ℕ → List ℕ
said_name (questions.Document Json) name = file_name name
said_name (questions.Document Text) name = shown_name name
said_name questions.Key name = shown_name name

-- This text says of two documents, which have names, what they are to each other, and so does the status.
abbrev pub Answers : (Document → Value) → Comparison → List ℕ → List ℕ → List ℕ → List ℕ → ℕ → List ℕ → Type 0
Answers value_of comparison name other first second status text =
    AnswersQuestion value_of comparison.question comparison.limits comparison.kind comparison.other_kind
    (said_name comparison.question name) (said_name comparison.question other) first second status text

-- ---- two inputs

-- All of both was taken, or of each one octet more than the limit, and this text is due of that.
abbrev pub DueOfBoth : (Document → Value) → Comparison → List ℕ → List ℕ → Option (List ℕ) → Option (List ℕ)
    → Option (List ℕ) → Option (List ℕ) → ℕ → List ℕ → Type 0
DueOfBoth value_of comparison name other before after other_before other_after status text =
    (first : List ℕ) × (second : List ℕ)
    × TakesFirst (comparison.limits.octets + 1) before after first
    × TakesFirst (comparison.limits.octets + 1) other_before other_after second
    × Answers value_of comparison name other first second status text

-- What comparing answers and writes: what is due; why not; or, where a write failed, the first octets of what is due.
abbrev pub RepliedComparing : (Document → Value) → Comparison → List ℕ → List ℕ → Compared → Option (List ℕ)
    → Option (List ℕ) → Option (List ℕ) → Option (List ℕ) → Option (List ℕ) → Option (List ℕ) → Type 0
RepliedComparing value_of comparison name other (Answered status) before after other_before other_after old new =
    (text : List ℕ)
    × DueOfBoth value_of comparison name other before after other_before other_after status text
    × Appends old new text
RepliedComparing value_of comparison name other (WriteFailed count) before after other_before other_after old new =
    (status : ℕ) × (text : List ℕ)
    × DueOfBoth value_of comparison name other before after other_before other_after status text
    × (count ≤ length text)
    × Appends old new (take count text)
RepliedComparing value_of comparison name other (FirstFailed at) before after other_before other_after old new =
    StopsTaking (comparison.limits.octets + 1) (ReadAt at) before after
RepliedComparing value_of comparison name other (SecondFailed at) before after other_before other_after old new =
    ((first : List ℕ) × TakesFirst (comparison.limits.octets + 1) before after first)
    × StopsTaking (comparison.limits.octets + 1) (ReadAt at) other_before other_after
RepliedComparing value_of comparison name other Memory before after other_before other_after old new = Unit {0}

-- how it ends where an input can't be taken, the first one or the second one
abbrev pub first_unread : ReadError → Compared
first_unread (FaultRead found) = Memory
first_unread (ReadAt at) = FirstFailed at
first_unread MemoryRead = Memory

abbrev pub second_unread : ReadError → Compared
second_unread (FaultRead found) = Memory
second_unread (ReadAt at) = SecondFailed at
second_unread MemoryRead = Memory

-- it says that nothing is written
abbrev pub IsUnanswered : Compared → Type 0
IsUnanswered (Answered status) = ⊥
IsUnanswered (FirstFailed at) = Unit {0}
IsUnanswered (SecondFailed at) = Unit {0}
IsUnanswered (WriteFailed count) = ⊥
IsUnanswered Memory = Unit {0}

-- whether the sources and the target have failed, by how it ends
abbrev pub ComparedFailed : Compared → Bool → Bool → Bool → Type 0
ComparedFailed (Answered status) first second target = (first ≡ false) × (second ≡ false) × (target ≡ false)
ComparedFailed (FirstFailed at) first second target = (first ≡ true) × (second ≡ false) × (target ≡ false)
ComparedFailed (SecondFailed at) first second target = (first ≡ false) × (second ≡ true) × (target ≡ false)
ComparedFailed (WriteFailed count) first second target = (first ≡ false) × (second ≡ false) × (target ≡ true)
ComparedFailed Memory first second target = (first ≡ false) × (second ≡ false) × (target ≡ false)

-- ---- over the streams of the program

-- it says that what the documents are to each other is written
abbrev pub IsAnswered : Compared → Type 0
IsAnswered (Answered status) = Unit {0}
IsAnswered (FirstFailed at) = ⊥
IsAnswered (SecondFailed at) = ⊥
IsAnswered (WriteFailed count) = ⊥
IsAnswered Memory = ⊥

-- How it ends after which the target is flushed: as it ended; or the target isn't flushed after what is shown, and then
-- how many octets are out isn't known.
abbrev pub ComparedAs : Compared → Compared → Type 0
ComparedAs end last = (last ≡ end) ⊎ (IsAnswered end × (last ≡ WriteFailed 0))

-- Comparing replies so, and then the target is flushed.
abbrev pub AnsweredPair : (Document → Value) → Comparison → List ℕ → List ℕ → Compared → Option (List ℕ)
    → Option (List ℕ) → Option (List ℕ) → Option (List ℕ) → Option (List ℕ) → Option (List ℕ) → Type 0
AnsweredPair value_of comparison name other last before after other_before other_after old new =
    (end : Compared)
    × (out : Option (List ℕ))
    × RepliedComparing value_of comparison name other end before after other_before other_after old out
    × Keeps out new
    × ComparedAs end last
