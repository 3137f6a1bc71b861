-- What judging files comes to that have documents one behind another.
use Rattle.std.specs.Prelude.{◌≡◌, ◌⊎◌, ◌∷◌, Bool, List, None, Option, Some, [], codes, false, map, true, ℕ}
use Rattle.x690.specs.Values.{Value}
use Rattle.pk_documents.specs.declared.document.Document.{Document}
use Rattle.commands.specs.Each.{AnsweredEach, Piece, entries_of, with_last}
use Rattle.commands.specs.Files.{has_failed_write, line_after, line_of_end}
use Rattle.commands.specs.Judgements.{JudgesNone, Part, Sources, part_of, verdicts_through}
use Rattle.commands.specs.Judgements.Part.{Input, Listed, Named}
use Rattle.commands.specs.Names.{shown_name}
use Rattle.commands.specs.Openings.{why_of}
use Rattle.commands.specs.Outcomes.{line_of}
use Rattle.commands.specs.Standards.{Says, SaysAlone, Seen}
use Rattle.commands.specs.declared.files.FilesEnd.{FilesEnd}
use Rattle.commands.specs.declared.opener.Unopened.{Unopened as Why}
use Rattle.commands.specs.declared.outcome.Outcome.TheVariants.{Memory, ReadFailed}
use Rattle.commands.specs.declared.tally.Verdict.{Verdict}
use Rattle.commands.specs.declared.tally.Verdict.TheVariants.{Unread}
use Rattle.commands.specs.declared.task.Task.{Task}

-- each file by itself, or standard input where nothing is named
abbrev pub streams_of : List (List ℕ) → List Part
streams_of [] = Input ∷ []
streams_of (name ∷ names) = map part_of (name ∷ names)

-- The documents of a source that is shown and named so, of which these octets are known.
abbrev pub JudgesStream : {Source : Type 0} → (Source → Bool) → (Document → Value) → Task → List ℕ → List ℕ
    → Option (List ℕ) → Seen → Seen → Option (List Verdict) → Type 0
JudgesStream {Source} has_failed value_of task shown name octets old new end =
    (pieces : List Piece)
    × (last : Option Piece)
    × (ended : FilesEnd)
    × AnsweredEach value_of task name ((source : Source) × (has_failed source ≡ true)) octets old.output new.output pieces
    last ended
    × (new.output_failed ≡ has_failed_write ended)
    × (has_failed_write ended ≡ false → new.flushed ≡ true)
    × Says (line_of_end shown ended) old new
    × (end ≡ verdicts_through ended (entries_of (with_last pieces last)))

-- The documents of standard input, of which these octets are known; once it is taken no more is read.
abbrev pub JudgesInputStream : {Source : Type 0} → (Source → Bool) → (Document → Value) → Task
    → Option (Option (List ℕ)) → Seen → Seen → Option (List Verdict) → Type 0
JudgesInputStream {Source} has_failed value_of task None old new end =
    SaysAlone (line_of (ReadFailed 0)) old new × (new.input ≡ old.input) × (end ≡ Some (Unread ∷ []))
JudgesInputStream {Source} has_failed value_of task (Some octets) old new end =
    (new.input ≡ None)
    × (JudgesNone (line_of Memory) old new end
    ⊎ JudgesStream has_failed value_of task (shown_name (codes "standard input")) [] octets old new end)

-- The documents of a file; one that isn't opened counts as one.
abbrev pub JudgesFile : {Source : Type 0} → (Source → Bool) → (Document → Value) → (List ℕ → Option (List ℕ))
    → (List ℕ → Why → Type 0) → Task → List ℕ → Seen → Seen → Option (List Verdict) → Type 0
JudgesFile {Source} has_failed value_of known unopened task name old new end =
    (new.input ≡ old.input)
    × (JudgesNone (line_of Memory) old new end
    ⊎ (((why : Why) × unopened name why × SaysAlone (line_after (shown_name name) (why_of why)) old new
    × (end ≡ Some (Unread ∷ [])))
    ⊎ JudgesStream has_failed value_of task (shown_name name) name (known name) old new end))

-- A part of a run: standard input, or a file by its name.
abbrev pub JudgesStreams : {Origin Opened : Type 0} → (Document → Value) → Sources Origin Opened → Task → Part → Seen
    → Seen → Option (List Verdict) → Type 0
JudgesStreams {Origin} {Opened} value_of sources task Input old new end =
    JudgesInputStream sources.input_failed value_of task old.input old new end
JudgesStreams {Origin} {Opened} value_of sources task (Named []) old new end = ⊥
JudgesStreams {Origin} {Opened} value_of sources task (Named (name ∷ names)) old new end =
    JudgesFile sources.failed value_of sources.known sources.unopened task name old new end
JudgesStreams {Origin} {Opened} value_of sources task (Listed list) old new end = ⊥
