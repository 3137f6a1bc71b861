-- What two documents are to each other, by the question.
use Rattle.std.proofs.Common.{◌≡◌, List, subst, ℕ}
use Rattle.x690.specs.Values.{Value}
use Rattle.pk_documents.specs.declared.document.Document.{Document}
use Rattle.commands.specs.Comparisons.{Answers, AnswersQuestion, said_name}
use Rattle.commands.specs.declared.question.Comparison.{Comparison}

-- the names as they are said
pub answers_named : (value_of : Document → Value) (comparison : Comparison)
    (name other said other_said first second : List ℕ) (status : ℕ) (text : List ℕ)
    → said ≡ said_name comparison.question name → other_said ≡ said_name comparison.question other
    → AnswersQuestion value_of comparison.question comparison.limits comparison.kind comparison.other_kind said
    other_said
    first second status text
    → Answers value_of comparison name other first second status text
answers_named value_of comparison name other said other_said first second status text s o h =
    subst
    (λ z. AnswersQuestion value_of comparison.question comparison.limits comparison.kind comparison.other_kind
    (said_name comparison.question name) z first second status text) o
    (subst
    (λ z.
    AnswersQuestion value_of comparison.question comparison.limits comparison.kind comparison.other_kind z other_said
    first second status text) s h)
