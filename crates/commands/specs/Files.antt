-- What a run over any number of named documents says, and how it ends.
use Rattle.std.specs.Prelude.{All, Bool, List, Option, Some, [], codes, cond, false, length, map, take, true, ℕ, ◌++◌, ◌==◌, ◌≡◌, ◌≤◌, ◌+◌, ◌^◌, ◌∷◌, ◌⊎◌}
use Rattle.std.specs.Io.KnownBytes.{Appends}
use Rattle.std.specs.List.{flat_map}
use Rattle.x690.specs.Values.{Value}
use Rattle.pk_documents.specs.declared.document.Document.{Document}
use Rattle.pk_documents.specs.declared.kind.Kind.{Kind}
use Rattle.commands.specs.Fronted.{fronted}
use Rattle.commands.specs.NameLists.{BeginsWith, IsListOf, TakesNames, fault_of}
use Rattle.commands.specs.Names.{file_name, shown_name}
use Rattle.commands.specs.Openings.{why_of}
use Rattle.commands.specs.Outcomes.{line_feed, line_of, status_of, words_of}
use Rattle.commands.specs.Replies.{Replied}
use Rattle.commands.specs.Reported.{error_line}
use Rattle.commands.specs.Tallies.{tally_of, verdict_of_came}
use Rattle.commands.specs.declared.files.Came.{Came}
use Rattle.commands.specs.declared.files.Came.TheVariants.{Ran, Unopened}
use Rattle.commands.specs.declared.files.FilesEnd.{FilesEnd}
use Rattle.commands.specs.declared.files.FilesEnd.TheVariants as ends
use Rattle.commands.specs.declared.names.NamesFault.{NamesFault}
use Rattle.commands.specs.declared.names.NamesFault.TheVariants.{TooMany}
use Rattle.commands.specs.declared.opener.Unopened.{Unopened as Why}
use Rattle.commands.specs.declared.outcome.Outcome.{Outcome}
use Rattle.commands.specs.declared.outcome.Outcome.TheVariants.{Done, NotDer, Noted, Fault, NoKind, Explained, ReadFailed, WriteFailed, Memory}
use Rattle.commands.specs.declared.tally.Tally.{Tally}
use Rattle.commands.specs.declared.tally.Verdict.{Verdict}
use Rattle.commands.specs.declared.task.Action.{Action}
use Rattle.commands.specs.declared.task.Action.TheVariants as actions
use Rattle.commands.specs.declared.task.Task.{Task}

-- ---- one document

-- how a run ended whose text is kept in memory
abbrev pub kept : Outcome → Outcome
kept Done = Done
kept (NotDer at) = NotDer at
kept Noted = Noted
kept (Fault found) = Fault found
kept (NoKind likely) = NoKind likely
kept (Explained found) = Explained found
kept (ReadFailed at) = ReadFailed at
kept (WriteFailed count) = Memory
kept Memory = Memory

-- it says that a read failed
abbrev pub has_failed_read : Outcome → Bool
has_failed_read Done = false
has_failed_read (NotDer at) = false
has_failed_read Noted = false
has_failed_read (Fault found) = false
has_failed_read (NoKind likely) = false
has_failed_read (Explained found) = false
has_failed_read (ReadFailed at) = true
has_failed_read (WriteFailed count) = false
has_failed_read Memory = false

-- A source is left that has failed, or hasn't, and has these octets.
abbrev pub IsLeft : {Source : Type 0} → (Source → Bool) → (Source → Option (List ℕ)) → Bool → Option (List ℕ) → Type 0
IsLeft {Source} has_failed remaining failed after =
    (source : Source) × (has_failed source ≡ failed) × (remaining source ≡ after)

-- A run of the task over the document, of which these octets are known, ends so, finds its kind where that isn't told,
-- and writes this: where it says that a read failed, it leaves a source that has failed; or the document isn't opened.
abbrev pub CameAs : (Document → Value) → Option (List ℕ) → (Why → Type 0) → (Bool → Option (List ℕ) → Type 0) → Task
    → List ℕ → Came → Option Kind → List ℕ → Type 0
CameAs value_of before refuses leaves task file (Ran outcome) found written =
    (after : Option (List ℕ))
    × (end : Outcome)
    × Replied value_of task (Some file) end found before after (Some []) (Some written)
    × leaves (has_failed_read end) after
    × (outcome ≡ kept end)
CameAs value_of before refuses leaves task file (Unopened why) found written = refuses why

abbrev pub status_of_came : Came → ℕ
status_of_came (Ran outcome) = status_of outcome
status_of_came (Unopened why) = 3

-- why not all that was asked for is written; nothing where what is written says all
abbrev pub words_of_came : Came → List ℕ
words_of_came (Ran outcome) = words_of outcome
words_of_came (Unopened why) = why_of why

-- whether what an action writes is JSON
abbrev pub is_json : Action → Bool
is_json (actions.Show json) = json
is_json (actions.Check json quiet places) = json
is_json (actions.Note noting) = noting.json
is_json (actions.Explain form) = form.json
is_json actions.Normalise = false
is_json (actions.Signed part) = false

-- what comes after a name: a brief report stands in its line
abbrev pub after_front : Bool → List ℕ
after_front is_brief = cond is_brief (codes ": ") (codes ":\n")

-- what is in front of a text that an action writes
abbrev pub text_front : Action → List ℕ → List ℕ
text_front (actions.Show json) name = shown_name name ++ codes ":\n"
text_front (actions.Check json quiet places) name = shown_name name ++ codes ": "
text_front (actions.Note noting) name = shown_name name ++ codes ": "
text_front (actions.Explain form) name = shown_name name ++ after_front form.brief
text_front actions.Normalise name = []
text_front (actions.Signed part) name = []

-- in front of JSON, which names the file, stands nothing
abbrev pub front_of : Action → List ℕ → List ℕ
front_of action name = cond (is_json action) [] (text_front action name)

-- whether that stands in front of each line, and not of the text alone
abbrev pub fronts_lines : Action → Bool
fronts_lines (actions.Note noting) = true
fronts_lines _ = false

-- a text that an action writes with what is in front
abbrev pub named_text : Action → List ℕ → List ℕ → List ℕ
named_text action name text =
    cond (fronts_lines action) (fronted (front_of action name) true text) (front_of action name ++ text)

-- words after a name as it is shown, as a line, where there are some
abbrev pub line_after : List ℕ → List ℕ → List ℕ
line_after shown words = cond (length words == 0) [] (shown ++ codes ": " ++ words ++ line_feed)

abbrev pub named_line : List ℕ → List ℕ → List ℕ
named_line name words = line_after (shown_name name) words

-- what is said of a document of which not all that was asked for is written: why, after its name or as JSON
abbrev pub said_line : Action → List ℕ → List ℕ → Came → List ℕ → List ℕ
said_line action name file came words =
    cond (is_json action) (error_line file (status_of_came came) words) (named_line name words)

-- What is said of a document: why nothing is written of it, or what is written; if that is nothing, nothing.
abbrev pub said_text : Action → List ℕ → List ℕ → Came → List ℕ → List ℕ
said_text action name file came written =
    cond (length (words_of_came came) == 0) (cond (length written == 0) [] (named_text action name written))
    (said_line action name file came (words_of_came came))

-- This is what the task says of the document of a name, and what that counts as.
abbrev pub IsSaid : (Document → Value) → (List ℕ → Option (List ℕ)) → (List ℕ → Why → Type 0)
    → (Bool → Option (List ℕ) → Type 0) → Task → List ℕ → Verdict → List ℕ → Type 0
IsSaid value_of known refuses leaves task name verdict text =
    (came : Came)
    × (found : Option Kind)
    × (written : List ℕ)
    × CameAs value_of (known name) (refuses name) leaves task (file_name name) came found written
    × (verdict ≡ verdict_of_came came found)
    × (text ≡ said_text task.action name (file_name name) came written)

-- ---- all documents, in the order of their names

pub record Entry : Type 0 where
  pub name : List ℕ
  pub verdict : Verdict
  pub text : List ℕ

abbrev pub names_of : List Entry → List (List ℕ)
names_of entries = map (λ it. it.name) entries

abbrev pub texts_of : List Entry → List ℕ
texts_of entries = flat_map (λ it. it.text) entries

abbrev pub verdicts_of : List Entry → List Verdict
verdicts_of entries = map (λ it. it.verdict) entries

abbrev pub AreSaid : (Document → Value) → (List ℕ → Option (List ℕ)) → (List ℕ → Why → Type 0)
    → (Bool → Option (List ℕ) → Type 0) → Task → List Entry → Type 0
AreSaid value_of known refuses leaves task entries =
    All (λ it. IsSaid value_of known refuses leaves task it.name it.verdict it.text) entries

-- So far it has come: these documents of the list, of which all is out.
pub record Went (value_of : Document → Value) (known : List ℕ → Option (List ℕ)) (refuses : List ℕ → Why → Type 0)
    (leaves : Bool → Option (List ℕ) → Type 0) (task : Task) (list left : Option (List (List ℕ)))
    (old new : Option (List ℕ)) (tally : Tally) (out : ℕ) (entries : List Entry) : Type 0 where
  pub said : AreSaid value_of known refuses leaves task entries
  pub named : TakesNames list left (names_of entries)
  pub written : Appends old new (texts_of entries)
  pub tallied : tally ≡ tally_of (verdicts_of entries)
  pub counted : out ≡ length (texts_of entries)

-- More can't be counted: the documents of the list, or the octets with the text of the next one.
abbrev pub IsPastCounting : (List Entry → Type 0) → Option (List (List ℕ)) → List Entry → Type 0
IsPastCounting are_said list entries =
    (2 ^ 64 ≤ length entries + 1)
    ⊎ ((next : Entry)
    × are_said (entries ++ next ∷ [])
    × BeginsWith list (names_of (entries ++ next ∷ []))
    × (2 ^ 64 ≤ length (texts_of (entries ++ next ∷ []))))

-- No more documents are gone through: all names that the list gave are these, and it doesn't give the next one; or more
-- can't be counted.
abbrev pub GivesUp : (List Entry → Type 0) → (Option (List (List ℕ)) → NamesFault → Type 0) → Option (List (List ℕ))
    → List Entry → NamesFault → Type 0
GivesUp are_said stops list entries fault =
    ((left : Option (List (List ℕ))) × TakesNames list left (names_of entries) × stops left fault)
    ⊎ ((fault ≡ TooMany) × IsPastCounting are_said list entries)

-- How it ends: after the last document of the list, with what came of all; or with the text of the last of these
-- documents, of which the first octets are out; or after some, since no more are gone through, or no memory is left.
abbrev pub EndsAfter : (List Entry → Type 0) → (Option (List (List ℕ)) → NamesFault → Type 0) → List Entry
    → Option (List (List ℕ)) → Option (List ℕ) → Option (List ℕ) → FilesEnd → Type 0
EndsAfter are_said stops entries list old new (ends.Through tally) =
    IsListOf list (names_of entries) × Appends old new (texts_of entries) × (tally ≡ tally_of (verdicts_of entries))
EndsAfter are_said stops entries list old new (ends.WriteFailed count) =
    BeginsWith list (names_of entries)
    × (count ≤ length (texts_of entries))
    × Appends old new (take count (texts_of entries))
EndsAfter are_said stops entries list old new (ends.NoName fault) =
    BeginsWith list (names_of entries)
    × Appends old new (texts_of entries)
    × GivesUp are_said stops list entries fault
EndsAfter are_said stops entries list old new ends.Memory =
    BeginsWith list (names_of entries) × Appends old new (texts_of entries)

abbrev pub FilesSaid : (Document → Value) → (List ℕ → Option (List ℕ)) → (List ℕ → Why → Type 0)
    → (Bool → Option (List ℕ) → Type 0) → Task → Option (List (List ℕ))
    → (Option (List (List ℕ)) → NamesFault → Type 0) → Option (List ℕ) → Option (List ℕ) → FilesEnd → Type 0
FilesSaid value_of known refuses leaves task list stops old new end =
    (entries : List Entry)
    × AreSaid value_of known refuses leaves task entries
    × EndsAfter (AreSaid value_of known refuses leaves task) stops entries list old new end

abbrev pub has_failed_write : FilesEnd → Bool
has_failed_write (ends.Through tally) = false
has_failed_write (ends.WriteFailed count) = true
has_failed_write (ends.NoName fault) = false
has_failed_write ends.Memory = false

abbrev pub status_of_end : FilesEnd → ℕ
status_of_end (ends.Through tally) = tally.status
status_of_end (ends.WriteFailed count) = 3
status_of_end (ends.NoName fault) = 3
status_of_end ends.Memory = 3

-- the line on standard error, of a list whose name is shown so
abbrev pub line_of_end : List ℕ → FilesEnd → List ℕ
line_of_end shown (ends.Through tally) = []
line_of_end shown (ends.WriteFailed count) = line_of (WriteFailed count)
line_of_end shown (ends.NoName fault) = line_after shown (fault_of fault)
line_of_end shown ends.Memory = line_of Memory
