use Rattle.std.proofs.Common.{string_bytes, subst, sym}
use Rattle.std.proofs.lemmas.Result.{IfOk-weaker}
use Rattle.pk_documents.proofs.DocumentValues.{valued}
use Rattle.commands.specs.Comparisons.{AnswersQuestion}
use Rattle.commands.proofs.compare.named_answer.Goals as goal

pub returns-in-Document : goal.returns-in-Document
returns-in-Document c =
    let asked = c.args.comparison.now in
    IfOk-weaker c.document_answer.result _ _
    (λ it h. subst
    (λ question. AnswersQuestion valued question asked.limits asked.kind asked.other_kind c.args.names.first.now
    c.args.names.second.now c.args.first.now c.args.second.now it.1 (string_bytes it.0)) (sym c.in-Document.is) h)
    c.document_answer.ensures
