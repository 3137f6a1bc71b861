-- What judging all documents comes to.
use Rattle.std.specs.Prelude.{Bool, List, Option, false, true, ℕ}
use Rattle.x690.specs.Values.{Value}
use Rattle.pk_documents.specs.declared.document.Document.{Document}
use Rattle.commands.specs.JudgedStreams.{JudgesStreams, streams_of}
use Rattle.commands.specs.Judgements.{Closes, Goes, Judges, Sources, parts_of}
use Rattle.commands.specs.Standards.{Seen}
use Rattle.commands.specs.declared.tally.Verdict.{Verdict}
use Rattle.commands.specs.declared.task.Task.{Task}

-- All of them are gone through, or the run ends with some: each name is of one document, with those of a list after
-- them, or each is of documents one behind another.
abbrev pub GoesBy : {Input Opened : Type 0} → (Document → Value) → Sources Input Opened → Task → Bool
    → List (List ℕ) → Option (List ℕ) → Seen → Seen → Option (List Verdict) → Type 0
GoesBy {Input} {Opened} value_of sources task false names list old new end =
    Goes (Judges value_of sources task) (parts_of names list) old new end
GoesBy {Input} {Opened} value_of sources task true names list old new end =
    Goes (JudgesStreams value_of sources task) (streams_of names) old new end

abbrev pub JudgesAll : {Input Opened : Type 0} → (Document → Value) → Sources Input Opened → Task → Bool → Bool
    → List (List ℕ) → Option (List ℕ) → Seen → Seen → ℕ → Type 0
JudgesAll {Input} {Opened} value_of sources task each sums names list old new status =
    (end : Option (List Verdict))
    × (between : Seen)
    × GoesBy value_of sources task each names list old between end
    × Closes task sums end between new status
