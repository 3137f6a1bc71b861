-- What the program does with the words of its line.
use Rattle.std.specs.Prelude.{◌≡◌, ◌⊎◌, ◌&&◌, ℕ, Bool, List, None, Option, Some, [], ◌∷◌, codes, false, is_none, map, string_bytes, true}
use Rattle.std.specs.Option.{option_map}
use Rattle.x690.specs.Values.{Value}
use Rattle.pk_documents.specs.declared.document.Document.{Document}
use Rattle.commands.specs.Conversions.{Converts}
use Rattle.commands.specs.Endings.{SaysText}
use Rattle.commands.specs.JudgedParts.{JudgesAll}
use Rattle.commands.specs.Judgements.{Sources}
use Rattle.commands.specs.MadeFiles.{Made}
use Rattle.commands.specs.Outcomes.{IsWhole, line_of, status_of}
use Rattle.commands.specs.Pairs.{ComparesNamed}
use Rattle.commands.specs.Replies.{FailedBy}
use Rattle.commands.specs.Standards.{Ends, EndsAlone, Seen, file_named}
use Rattle.commands.specs.declared.new_file.Unmade.{Unmade}
use Rattle.commands.specs.declared.outcome.Outcome.{Outcome}
use Rattle.commands.specs.declared.outcome.Outcome.TheVariants as outcomes
use Rattle.commands.specs.declared.task.Action.{Action}
use Rattle.commands.specs.declared.task.Action.TheVariants.{Check, Explain, Normalise, Note, Show, Signed}
use Rattle.pkder.specs.CommandLines.{Invokes, InvokesNothing}
use Rattle.pkder.specs.declared.line.Invocation.{Invocation}
use Rattle.pkder.specs.declared.line.Invocation.TheVariants.{Both, Each}
use Rattle.pkder.specs.declared.line.LineFault.{LineFault}
use Rattle.pkder.specs.declared.line.LineFault.TheVariants.{Help, Line, Memory}
use Rattle.pkder.specs.declared.line.Order.{Order}

-- whether what an action writes is no text
abbrev pub is_binary : Action → Bool
is_binary (Show json) = false
is_binary (Check json quiet places) = false
is_binary (Note noting) = false
is_binary (Explain form) = false
is_binary Normalise = true
is_binary (Signed part) = true

abbrev pub binary_text : List ℕ
binary_text =
    codes
    "error: what is written is binary, and standard output is a terminal\n\n  tip: --to NEW-FILE; with --to - it is written all the same\n\nFor more information, try '--help'.\n"

abbrev pub first_name : List (List ℕ) → Option (List ℕ)
first_name [] = None
first_name (name ∷ names) = Some name

-- What is done with each document: it is converted, but not to a terminal unless that is asked for; or judged.
abbrev pub Follows : {Input Opened File : Type 0} → (Document → Value) → Sources Input Opened → (File → Made)
    → (List ℕ → Unmade → Type 0) → Bool → Order → Bool → Bool → Seen → Seen → ℕ → Type 0
Follows {Input} {Opened} {File} value_of sources made_of refuses is_terminal order false unnamed old new status =
    JudgesAll value_of sources order.task order.each order.sums (map (λ name. name.now) order.names.items)
    (option_map (λ name. name.now) order.list) old new status
Follows {Input} {Opened} {File} value_of sources made_of refuses is_terminal order true true old new status =
    EndsAlone old new status binary_text 4
Follows {Input} {Opened} {File} value_of sources made_of refuses is_terminal order true false old new status =
    Converts value_of sources.known sources.unopened made_of refuses order.task
    (file_named (first_name (map (λ name. name.now) order.names.items)))
    (file_named (option_map (λ name. name.now) order.to)) old.input old new status

-- What a line asks for is done.
abbrev pub Does : {Input Opened File : Type 0} → (Document → Value) → Sources Input Opened → (File → Made)
    → (List ℕ → Unmade → Type 0) → Bool → Invocation → Seen → Seen → ℕ → Type 0
Does {Input} {Opened} {File} value_of sources made_of refuses is_terminal (Each order) old new status =
    Follows value_of sources made_of refuses is_terminal order (is_binary order.task.action)
    (is_none order.to && is_terminal) old new status
Does {Input} {Opened} {File} value_of sources made_of refuses is_terminal (Both pair) old new status =
    ComparesNamed value_of sources.known sources.unopened pair.comparison pair.first.now pair.second.now old new status

-- It is said why nothing is done, or the text of help is written.
abbrev pub SaysFault : LineFault → Seen → Seen → ℕ → Type 0
SaysFault (Line text) old new status = EndsAlone old new status (string_bytes text) 4
SaysFault (Help text) old new status =
    (outcome : Outcome)
    × SaysText (string_bytes text) old.output new.output outcome
    × (IsWhole outcome → new.flushed ≡ true)
    × FailedBy outcome false new.output_failed
    × Ends old new status (line_of outcome) (status_of outcome)
SaysFault Memory old new status = EndsAlone old new status (line_of outcomes.Memory) 3

-- The words ask for something, and that is done; or they ask for nothing that can be done, and that is said.
abbrev pub Responds : {Input Opened File : Type 0} → (Document → Value) → Sources Input Opened → (File → Made)
    → (List ℕ → Unmade → Type 0) → Bool → List (List ℕ) → Seen → Seen → ℕ → Type 0
Responds {Input} {Opened} {File} value_of sources made_of refuses is_terminal words old new status =
    ((invocation : Invocation) × Invokes words invocation
    × Does value_of sources made_of refuses is_terminal invocation old new status)
    ⊎ ((fault : LineFault) × InvokesNothing words fault × SaysFault fault old new status)
