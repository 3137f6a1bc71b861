-- The exit status of each outcome, and its line on standard error.
use Rattle.std.specs.Prelude.{ℕ, Bool, List, [], ◌∷◌, ◌++◌, ◌==◌, codes, cond, decimal, length, Option, Some, None, false, true}
use Rattle.tlv_core.specs.Reasons.{name_of}
use Rattle.tlv_core.specs.declared.fault.Fault.{Fault as DocumentFault}
use Rattle.tlv_core.specs.declared.reason.Reason.{Reason}
use Rattle.pk_documents.specs.KindRows.{word_of}
use Rattle.pk_documents.specs.declared.kind.Kind.{Kind}
use Rattle.commands.specs.declared.outcome.Outcome.{Outcome}
use Rattle.commands.specs.declared.outcome.Outcome.TheVariants.{Done, NotDer, Noted, Fault, NoKind, Explained, ReadFailed, WriteFailed, Memory}

abbrev pub status_of : Outcome → ℕ
status_of Done = 0
status_of (NotDer at) = 1
status_of (Fault fault) = 2
status_of (NoKind likely) = 2
status_of (Explained fault) = 2
status_of (ReadFailed at) = 3
status_of (WriteFailed after) = 3
status_of Memory = 3
status_of Noted = 5

abbrev pub line_feed : List ℕ
line_feed = 10 ∷ []

-- a place and a reason
abbrev pub place_text : ℕ → Reason → List ℕ
place_text at why = decimal at ++ codes ": " ++ name_of why

-- the place and reason of a fault inside, where there is one
abbrev pub inside_text : Option (ℕ × Reason) → List ℕ
inside_text None = []
inside_text (Some inside) = codes " inside at " ++ place_text inside.0 inside.1

-- a fault
abbrev pub fault_text : DocumentFault → List ℕ
fault_text fault = codes "fault at " ++ place_text fault.at fault.why ++ inside_text fault.inside

-- that octets are of no kind, and the fault that they have as a document of the likely one, where there is one
abbrev pub none_text : Option (Kind × DocumentFault) → List ℕ
none_text None = codes "none of these"
none_text (Some likely) =
    codes "none of these; likely " ++ word_of likely.0 ++ codes ": " ++ fault_text likely.1

-- why not all that was asked for is written; nothing where what is written says all
abbrev pub words_of : Outcome → List ℕ
words_of Done = []
words_of (NotDer at) = []
words_of Noted = []
words_of (Fault fault) = fault_text fault
words_of (NoKind likely) = none_text likely
words_of (Explained fault) = []
words_of (ReadFailed at) = codes "read failed at " ++ decimal at
words_of (WriteFailed after) = codes "write failed after " ++ decimal after
words_of Memory = codes "out of memory"

-- it says that all that was due is written
abbrev pub IsWhole : Outcome → Type 0
IsWhole Done = Unit {0}
IsWhole (NotDer at) = Unit {0}
IsWhole Noted = Unit {0}
IsWhole (Fault found) = ⊥
IsWhole (NoKind likely) = ⊥
IsWhole (Explained found) = Unit {0}
IsWhole (ReadFailed at) = ⊥
IsWhole (WriteFailed count) = ⊥
IsWhole Memory = ⊥

-- words as a line, where there are some
abbrev pub as_line : List ℕ → List ℕ
as_line words = cond (length words == 0) [] (words ++ line_feed)

abbrev pub line_of : Outcome → List ℕ
line_of outcome = as_line (words_of outcome)

-- what checking a document says of it, by the place where it isn't in DER
abbrev pub verdict_of : Option ℕ → List ℕ
verdict_of None = codes "DER" ++ line_feed
verdict_of (Some at) = codes "not DER at " ++ decimal at ++ line_feed

-- the same; if that is to be quiet, nothing of what is in DER
abbrev pub said_verdict : Bool → Option ℕ → List ℕ
said_verdict false place = verdict_of place
said_verdict true None = []
said_verdict true (Some at) = verdict_of (Some at)
