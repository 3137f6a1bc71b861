-- What converting one document comes to.
use Rattle.std.specs.Prelude.{◌≡◌, ◌⊎◌, ◌++◌, ℕ, Bool, Err, List, None, Ok, Option, Result, Some, [], codes, cond, false, true}
use Rattle.x690.specs.Values.{Value}
use Rattle.pk_documents.specs.declared.document.Document.{Document}
use Rattle.commands.specs.Endings.{Served}
use Rattle.commands.specs.Files.{line_after}
use Rattle.commands.specs.MadeFiles.{IsMade, Made, Unmakes, WroteMade, why_unmade}
use Rattle.commands.specs.Names.{shown_name}
use Rattle.commands.specs.Openings.{why_of}
use Rattle.commands.specs.Outcomes.{line_of, status_of, words_of}
use Rattle.commands.specs.Standards.{Ends, EndsAlone, Seen}
use Rattle.commands.specs.declared.new_file.Unmade.{Unmade}
use Rattle.commands.specs.declared.new_file.Unmade.TheVariants.{Denied, Full, Irregular, Memory as NoMemory, NoFolder, NotFolder, Other, ReadOnly, TooLong}
use Rattle.commands.specs.declared.opener.Unopened.{Unopened as Why}
use Rattle.commands.specs.declared.outcome.Outcome.{Outcome}
use Rattle.commands.specs.declared.outcome.Outcome.TheVariants.{Memory, ReadFailed}
use Rattle.commands.specs.declared.task.Task.{Task}

-- ---- what is made of a source

-- A task is answered over a target: what it contained and contains, whether it has failed, and whether it is flushed.
abbrev pub Answering : Type 1
Answering = Outcome → Option (List ℕ) → Option (List ℕ) → Bool → Bool → Type 0

-- Where no file is named, the task is answered over the target; otherwise over a new file, and
-- the target stays as it is.
abbrev pub ConvertsTo : {File : Type 0} → (File → Made) → (List ℕ → Unmade → Type 0) → Task → Answering
    → Option (List ℕ) → Result Outcome Unmade → Option (List ℕ) → Option (List ℕ) → Bool → Bool → Type 0
ConvertsTo {File} made_of refuses task Answers None (Ok outcome) old new failed flushed =
    Answers outcome old new failed flushed
ConvertsTo {File} made_of refuses task Answers None (Err why) old new failed flushed = ⊥
ConvertsTo {File} made_of refuses task Answers (Some name) (Ok outcome) old new failed flushed =
    (new ≡ old)
    × (failed ≡ false)
    × ((file : File)
    × IsMade name task outcome (made_of file)
    × WroteMade (Answers outcome) outcome (made_of file))
ConvertsTo {File} made_of refuses task Answers (Some name) (Err why) old new failed flushed =
    (new ≡ old) × (failed ≡ false) × Unmakes made_of (refuses name) name why

-- ---- the line and the status of how it ended

abbrev pub is_irregular : Unmade → Bool
is_irregular Irregular = true
is_irregular NoFolder = false
is_irregular NotFolder = false
is_irregular Denied = false
is_irregular ReadOnly = false
is_irregular Full = false
is_irregular TooLong = false
is_irregular NoMemory = false
is_irregular Other = false

-- why no file of a name is made
abbrev pub unmade_line : List ℕ → Unmade → List ℕ
unmade_line to why =
    cond (is_irregular why)
    (codes "error: not a regular file: " ++ shown_name to ++ codes "\n\n  tip: '--to -' writes to standard output\n")
    (shown_name to ++ codes ": " ++ why_unmade why ++ codes "\n")

-- the status of a line that is refused, or of writing that failed
abbrev pub unmade_status : Unmade → ℕ
unmade_status why = cond (is_irregular why) 4 3

-- Why no file of a name is made is said, with its status; or there is no memory for that.
abbrev pub ClosesUnmade : (List ℕ → ℕ → Type 0) → List ℕ → Unmade → Type 0
ClosesUnmade Closes to why = Closes (unmade_line to why) (unmade_status why) ⊎ Closes (line_of Memory) 3

abbrev pub name_or_none : Option (List ℕ) → List ℕ
name_or_none None = []
name_or_none (Some name) = name

-- How a task ended is said, by the name of the document as it is shown, where it has one.
abbrev pub ClosesRan : (List ℕ → ℕ → Type 0) → Option (List ℕ) → Outcome → Type 0
ClosesRan Closes None outcome = Closes (line_of outcome) (status_of outcome)
ClosesRan Closes (Some shown) outcome = Closes (line_after shown (words_of outcome)) (status_of outcome)

-- The same of a conversion, by the name of the new file, too.
abbrev pub ClosesConverted : (List ℕ → ℕ → Type 0) → Option (List ℕ) → Option (List ℕ) → Result Outcome Unmade → Type 0
ClosesConverted Closes shown to (Ok outcome) = ClosesRan Closes shown outcome
ClosesConverted Closes shown to (Err why) = ClosesUnmade Closes (name_or_none to) why

-- ---- all of it

-- It is done with a source of which these octets are known.
abbrev pub Converted : {File : Type 0} → (Document → Value) → (File → Made) → (List ℕ → Unmade → Type 0) → Task
    → Option (List ℕ) → Option (List ℕ) → Option (List ℕ) → Seen → Seen → ℕ → Type 0
Converted {File} value_of made_of refuses task shown to before old new status =
    (result : Result Outcome Unmade)
    × (after : Option (List ℕ))
    × (unread : Bool)
    × ConvertsTo made_of refuses task (Served value_of task before after unread) to result old.output new.output
    new.output_failed new.flushed
    × ClosesConverted (Ends old new status) shown to result

-- The document is what is known of standard input, or that of a name: it is opened, and these octets are known of it;
-- or it isn't; or there is no memory for its line.
abbrev pub Converts : {File : Type 0} → (Document → Value) → (List ℕ → Option (List ℕ)) → (List ℕ → Why → Type 0)
    → (File → Made) → (List ℕ → Unmade → Type 0) → Task → Option (List ℕ) → Option (List ℕ) → Option (Option (List ℕ))
    → Seen → Seen → ℕ → Type 0
Converts {File} value_of known unopened made_of refuses task None to None old new status =
    EndsAlone old new status (line_of (ReadFailed 0)) 3
Converts {File} value_of known unopened made_of refuses task None to (Some input) old new status =
    Converted value_of made_of refuses task None to input old new status
Converts {File} value_of known unopened made_of refuses task (Some name) to input old new status =
    EndsAlone old new status (line_of Memory) 3
    ⊎ (((why : Why) × unopened name why × EndsAlone old new status (line_after (shown_name name) (why_of why)) 3)
    ⊎ Converted value_of made_of refuses task (Some (shown_name name)) to (known name) old new status)
