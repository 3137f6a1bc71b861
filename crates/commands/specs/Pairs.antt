-- What comparing two documents by their names comes to.
use Rattle.std.specs.Prelude.{◌≡◌, ◌⊎◌, ℕ, Bool, List, Option, true}
use Rattle.x690.specs.Values.{Value}
use Rattle.pk_documents.specs.declared.document.Document.{Document}
use Rattle.commands.specs.Comparisons.{AnsweredPair, ComparedFailed, IsAnswered, IsUnanswered, compared_status}
use Rattle.commands.specs.Endings.{line_of_compared}
use Rattle.commands.specs.Files.{line_after, status_of_came, words_of_came}
use Rattle.commands.specs.Names.{shown_name}
use Rattle.commands.specs.Outcomes.{line_of}
use Rattle.commands.specs.Standards.{Comes, ComesNot, Ends, EndsAlone, Seen, input_after}
use Rattle.commands.specs.declared.question.Compared.{Compared}
use Rattle.commands.specs.declared.question.Comparison.{Comparison}
use Rattle.commands.specs.declared.files.Came.{Came}
use Rattle.commands.specs.declared.opener.Unopened.{Unopened as Why}
use Rattle.commands.specs.declared.outcome.Outcome.TheVariants.{Memory}

-- Two sources, of which these octets are known, are compared, and the line and the status say how that ended.
abbrev pub ComparesBoth : (Document → Value) → Comparison → List ℕ → List ℕ → Option (List ℕ) → Option (List ℕ)
    → Seen → Seen → ℕ → Type 0
ComparesBoth value_of comparison first second octets others old new status =
    (end : Compared)
    × (after : Option (List ℕ))
    × (others_after : Option (List ℕ))
    × (unread : Bool)
    × (others_unread : Bool)
    × AnsweredPair value_of comparison first second end octets after others others_after old.output new.output
    × (IsUnanswered end → new.output ≡ old.output)
    × ComparedFailed end unread others_unread new.output_failed
    × (IsAnswered end → new.flushed ≡ true)
    × Ends old new status (line_of_compared (shown_name first) (shown_name second) end) (compared_status end)

-- No document comes by a name, and that is said, and nothing else.
abbrev pub ComparesNone : (List ℕ → Why → Type 0) → List ℕ → Option (Option (List ℕ)) → Seen → Seen → ℕ → Type 0
ComparesNone unopened name input old new status =
    (came : Came)
    × ComesNot unopened name input came
    × EndsAlone old new status (line_after (shown_name name) (words_of_came came)) (status_of_came came)

-- The first document has come, and the second one comes, or not.
abbrev pub ComparesWith : (Document → Value) → (List ℕ → Option (List ℕ)) → (List ℕ → Why → Type 0) → Comparison
    → List ℕ → List ℕ → Option (List ℕ) → Option (Option (List ℕ)) → Seen → Seen → ℕ → Type 0
ComparesWith value_of known unopened comparison first second octets input old new status =
    ComparesNone unopened second input old new status
    ⊎ ((others : Option (List ℕ))
    × Comes known second input others
    × ComparesBoth value_of comparison first second octets others old new status)

-- Two documents are compared by their names, of which one may be that of standard input; or there is no memory for
-- lines that begin with these.
abbrev pub ComparesNamed : (Document → Value) → (List ℕ → Option (List ℕ)) → (List ℕ → Why → Type 0) → Comparison
    → List ℕ → List ℕ → Seen → Seen → ℕ → Type 0
ComparesNamed value_of known unopened comparison first second old new status =
    EndsAlone old new status (line_of Memory) 3
    ⊎ (ComparesNone unopened first old.input old new status
    ⊎ ((octets : Option (List ℕ))
    × Comes known first old.input octets
    × ComparesWith value_of known unopened comparison first second octets (input_after first old.input) old new status))
