-- What judging documents comes to, of which one may be that of standard input.
use Rattle.std.specs.Prelude.{◌≡◌, ◌⊎◌, ◌++◌, ◌∷◌, ℕ, Bool, List, None, Option, Some, [], cond, false, map, true}
use Rattle.std.specs.List.{list_any}
use Rattle.x690.specs.Values.{Value}
use Rattle.pk_documents.specs.declared.document.Document.{Document}
use Rattle.pk_documents.specs.declared.kind.Kind.{Kind}
use Rattle.commands.specs.Endings.{AnsweredFiles, ServedOf}
use Rattle.commands.specs.Files.{Entry, IsLeft, has_failed_write, line_after, line_of_end, verdicts_of, words_of_came}
use Rattle.commands.specs.NameLists.{HasStopped, StopsReading, known_names, source_of, words_of}
use Rattle.commands.specs.Names.{shown_name}
use Rattle.commands.specs.Outcomes.{line_of}
use Rattle.commands.specs.Standards.{EndsAlone, Says, SaysAlone, Seen, input_after, is_dash}
use Rattle.commands.specs.Sums.{SumsUp}
use Rattle.commands.specs.Tallies.{greatest, tally_of, verdict_of}
use Rattle.commands.specs.declared.ended_names.EndedNames.{EndedNames}
use Rattle.commands.specs.declared.files.Came.TheVariants.{Ran, Unopened}
use Rattle.commands.specs.declared.files.FilesEnd.{FilesEnd}
use Rattle.commands.specs.declared.files.FilesEnd.TheVariants as ends
use Rattle.commands.specs.declared.names.NamesFault.{NamesFault}
use Rattle.commands.specs.declared.names.NamesFault.TheVariants.{Memory as NoMemory}
use Rattle.commands.specs.declared.names.Words.{Words}
use Rattle.commands.specs.declared.opener.Unopened.{Unopened as Why}
use Rattle.commands.specs.declared.outcome.Outcome.{Outcome}
use Rattle.commands.specs.declared.outcome.Outcome.TheVariants.{Done, Explained, Fault, Memory, NoKind, NotDer, Noted, ReadFailed, WriteFailed}
use Rattle.commands.specs.declared.tally.Tally.{Tally}
use Rattle.commands.specs.declared.tally.Verdict.{Verdict}
use Rattle.commands.specs.declared.tally.Verdict.TheVariants.{Unread}
use Rattle.commands.specs.declared.task.Task.{Task}

-- ---- the parts of a run

-- Documents that are gone through at once: that of standard input; those of names; those of a list, whose name this is.
pub data Part : Type 0 where
  Input : Part
  Named : List (List ℕ) → Part
  Listed : List ℕ → Part

abbrev pub part_of : List ℕ → Part
part_of name = cond (is_dash name) Input (Named (name ∷ []))

-- all names at once, or each by itself where one of them is that of standard input
abbrev pub parts_named : List (List ℕ) → List Part
parts_named names = cond (list_any is_dash names) (map part_of names) (Named names ∷ [])

-- the documents of these names, or that of standard input where there are none
abbrev pub parts_alone : List (List ℕ) → List Part
parts_alone [] = Input ∷ []
parts_alone (name ∷ names) = parts_named (name ∷ names)

-- the same, and those of a list after them, where there is one
abbrev pub parts_of : List (List ℕ) → Option (List ℕ) → List Part
parts_of names None = parts_alone names
parts_of names (Some list) = parts_named names ++ (Listed list ∷ [])

-- ---- one part: what came of its documents where the run goes on after it, and nothing where it doesn't

abbrev pub verdicts_after : Outcome → Option Kind → Option (List Verdict)
verdicts_after Done kind = Some (verdict_of Done kind ∷ [])
verdicts_after (NotDer at) kind = Some (verdict_of (NotDer at) kind ∷ [])
verdicts_after Noted kind = Some (verdict_of Noted kind ∷ [])
verdicts_after (Fault found) kind = Some (verdict_of (Fault found) kind ∷ [])
verdicts_after (NoKind likely) kind = Some (verdict_of (NoKind likely) kind ∷ [])
verdicts_after (Explained found) kind = Some (verdict_of (Explained found) kind ∷ [])
verdicts_after (ReadFailed at) kind = Some (verdict_of (ReadFailed at) kind ∷ [])
verdicts_after (WriteFailed after) kind = None
verdicts_after Memory kind = Some (verdict_of Memory kind ∷ [])

abbrev pub verdicts_through : FilesEnd → List Entry → Option (List Verdict)
verdicts_through (ends.Through tally) entries = Some (verdicts_of entries)
verdicts_through (ends.WriteFailed after) entries = None
verdicts_through (ends.NoName fault) entries = None
verdicts_through ends.Memory entries = None

-- how many documents count as what, where the run goes on
abbrev pub tally_through : FilesEnd → Option Tally
tally_through (ends.Through tally) = Some tally
tally_through (ends.WriteFailed after) = None
tally_through (ends.NoName fault) = None
tally_through ends.Memory = None

-- What comes of documents is counted so.
abbrev pub Tallied : (Option (List Verdict) → Type 0) → Option Tally → Type 0
Tallied Ends None = Ends None
Tallied Ends (Some tally) = (verdicts : List Verdict) × Ends (Some verdicts) × (tally ≡ tally_of verdicts)

-- The document of standard input, of which these octets are known; once it is taken no more is read.
abbrev pub JudgesInput : (Document → Value) → Task → Option (Option (List ℕ)) → Seen → Seen → Option (List Verdict) → Type 0
JudgesInput value_of task None old new end =
    SaysAlone (line_of (ReadFailed 0)) old new × (new.input ≡ old.input) × (end ≡ Some (Unread ∷ []))
JudgesInput value_of task (Some octets) old new end =
    (outcome : Outcome)
    × (found : Option Kind)
    × (after : Option (List ℕ))
    × (unread : Bool)
    × ServedOf value_of task found octets after unread outcome old.output new.output new.output_failed new.flushed
    × Says (line_of outcome) old new
    × (new.input ≡ None)
    × (end ≡ verdicts_after outcome found)

-- The documents of the names of a list, whose own name is shown so.
abbrev pub JudgesNames : (Document → Value) → (List ℕ → Option (List ℕ)) → (List ℕ → Why → Type 0)
    → (Bool → Option (List ℕ) → Type 0) → Task → List ℕ → Option (List (List ℕ))
    → (Option (List (List ℕ)) → NamesFault → Type 0) → Seen → Seen → Option (List Verdict) → Type 0
JudgesNames value_of known unopened leaves task list names stops old new end =
    (entries : List Entry)
    × (last : FilesEnd)
    × AnsweredFiles value_of known unopened leaves task names stops old.output new.output entries last
    × (new.output_failed ≡ has_failed_write last)
    × (has_failed_write last ≡ false → new.flushed ≡ true)
    × Says (line_of_end list last) old new
    × (end ≡ verdicts_through last entries)

-- The list of names is that of words, which stands so at the end.
abbrev pub StopsWords : Words → Option (List (List ℕ)) → NamesFault → Type 0
StopsWords words = HasStopped (λ it. Some (words_of it)) (λ _ _ fault. fault ≡ NoMemory) words

-- The list of names is known of a source, and is so at the end.
abbrev pub StopsEnded : {Source : Type 0} → (Source → Bool) → (Source → Option (List ℕ)) → EndedNames Source
    → Option (List (List ℕ)) → NamesFault → Type 0
StopsEnded {Source} has_failed remaining list =
    HasStopped (λ it. known_names [] (remaining (source_of it)))
    (λ old new. StopsReading (has_failed (source_of new)) (remaining (source_of old)) (remaining (source_of new))) list

-- There is no memory for a name, or none comes by it, and that is said.
abbrev pub JudgesNone : List ℕ → Seen → Seen → Option (List Verdict) → Type 0
JudgesNone line old new end = SaysAlone line old new × (end ≡ None)

-- The documents of the names of a list, of which these octets are known.
abbrev pub JudgesKnown : {Source : Type 0} → (Source → Bool) → (Source → Option (List ℕ)) → (Document → Value)
    → (List ℕ → Option (List ℕ)) → (List ℕ → Why → Type 0) → (Bool → Option (List ℕ) → Type 0) → Task → List ℕ
    → Option (List ℕ) → Seen → Seen → Option (List Verdict) → Type 0
JudgesKnown {Source} has_failed remaining value_of known unopened leaves task list octets old new end =
    (names : EndedNames Source)
    × JudgesNames value_of known unopened leaves task (shown_name list) (known_names [] octets)
    (StopsEnded has_failed remaining names) old new end

-- ---- all parts

-- What judging needs to know of the sources: what is known of standard input and opened documents, and whether they
-- have failed.
pub record Sources (Input Opened : Type 0) : Type 1 where
  pub input_failed : Input → Bool
  pub input_remaining : Input → Option (List ℕ)
  pub failed : Opened → Bool
  pub remaining : Opened → Option (List ℕ)
  pub known : List ℕ → Option (List ℕ)
  pub unopened : List ℕ → Why → Type 0

abbrev pub sources_of : {Input Opened : Type 0} → (Input → Bool) → (Input → Option (List ℕ)) → (Opened → Bool)
    → (Opened → Option (List ℕ)) → (List ℕ → Option (List ℕ)) → (List ℕ → Why → Type 0) → Sources Input Opened
sources_of {Input} {Opened} input_failed input_remaining failed remaining known unopened = record {
  input_failed = input_failed;
  input_remaining = input_remaining;
  failed = failed;
  remaining = remaining;
  known = known;
  unopened = unopened;
}

abbrev pub leaves_of : {Input Opened : Type 0} → Sources Input Opened → Bool → Option (List ℕ) → Type 0
leaves_of {Input} {Opened} sources = IsLeft sources.failed sources.remaining

-- A list by its name, which is that of standard input, or not.
abbrev pub JudgesListed : {Input Opened : Type 0} → (Document → Value) → Sources Input Opened → Task → List ℕ → Bool
    → Option (Option (List ℕ)) → Seen → Seen → Option (List Verdict) → Type 0
JudgesListed {Input} {Opened} value_of sources task list true None old new end =
    JudgesNone (line_after (shown_name list) (words_of_came (Ran (ReadFailed 0)))) old new end
JudgesListed {Input} {Opened} value_of sources task list true (Some octets) old new end =
    JudgesKnown sources.input_failed sources.input_remaining value_of sources.known sources.unopened
    (leaves_of sources) task
    list octets old new end
JudgesListed {Input} {Opened} value_of sources task list false input old new end =
    ((why : Why)
    × sources.unopened list why
    × JudgesNone (line_after (shown_name list) (words_of_came (Unopened why))) old new end)
    ⊎ JudgesKnown sources.failed sources.remaining value_of sources.known sources.unopened (leaves_of sources) task list
    (sources.known list) old new end

-- A part of a run. Where there is no memory for a line, no more is judged.
abbrev pub Judges : {Origin Opened : Type 0} → (Document → Value) → Sources Origin Opened → Task → Part → Seen → Seen
    → Option (List Verdict) → Type 0
Judges {Origin} {Opened} value_of sources task Input old new end = JudgesInput value_of task old.input old new end
Judges {Origin} {Opened} value_of sources task (Named names) old new end =
    (new.input ≡ old.input)
    × (JudgesNone (line_of Memory) old new end
    ⊎ ((words : Words)
    × JudgesNames value_of sources.known sources.unopened (leaves_of sources) task (shown_name []) (Some names)
    (StopsWords words) old new end))
Judges {Origin} {Opened} value_of sources task (Listed list) old new end =
    ((new.input ≡ old.input) × JudgesNone (line_of Memory) old new end)
    ⊎ ((new.input ≡ input_after list old.input)
    × JudgesListed value_of sources task list (is_dash list) old.input old new end)

-- Parts are gone through one after another.
abbrev pub GoesThrough : (Part → Seen → Seen → Option (List Verdict) → Type 0) → List Part → Seen → Seen
    → List Verdict → Type 0
GoesThrough Step [] old new verdicts = (new ≡ old) × (verdicts ≡ [])
GoesThrough Step (part ∷ parts) old new verdicts =
    (between : Seen)
    × (first : List Verdict)
    × (others : List Verdict)
    × Step part old between (Some first)
    × GoesThrough Step parts between new others
    × (verdicts ≡ first ++ others)

-- The run ends with a part, before the parts after it.
abbrev pub StopsAt : (Part → Seen → Seen → Option (List Verdict) → Type 0) → List Part → Seen → Seen → Type 0
StopsAt Step [] old new = ⊥
StopsAt Step (part ∷ parts) old new =
    Step part old new None
    ⊎ ((between : Seen) × (first : List Verdict) × Step part old between (Some first) × StopsAt Step parts between new)

-- All parts are gone through, and this came of their documents; or the run ends with one of them.
abbrev pub Goes : (Part → Seen → Seen → Option (List Verdict) → Type 0) → List Part → Seen → Seen
    → Option (List Verdict) → Type 0
Goes Step parts old new (Some verdicts) = GoesThrough Step parts old new verdicts
Goes Step parts old new None = StopsAt Step parts old new

-- The end is told: the status is the largest of the documents, and 3 where the run ended before its last part. Where a
-- sum is asked for, the line of what came of all documents is written after the last part.
abbrev pub Closes : Task → Bool → Option (List Verdict) → Seen → Seen → ℕ → Type 0
Closes task sums None old new status = (new ≡ old) × (status ≡ 3)
Closes task false (Some verdicts) old new status = (new ≡ old) × (status ≡ greatest verdicts)
Closes task true (Some verdicts) old new status = SumsUp (EndsAlone old new status) task (tally_of verdicts)
