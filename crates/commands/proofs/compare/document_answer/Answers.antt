use Rattle.std.proofs.Common.{ap, string_bytes, subst, ◌++◌, ◌∙◌}
use Rattle.pk_documents.proofs.DocumentValues.{valued}
use Rattle.commands.specs.Comparisons.{IsNote}
use Rattle.commands.proofs.compare.document_answer.Goals as goal

pub returns : goal.returns
returns c = (
  c.in_ok-text.sameness,
  string_bytes c.in_ok-text.text,
  string_bytes c.in_ok-note.note,
  c.in_ok-text.ensures,
  subst
      (λ due. IsNote due valued c.args.limits c.args.kind c.args.names.first.now
      c.args.names.second.now c.args.documents.first.now c.args.documents.second.now (string_bytes c.in_ok-note.note))
      c.has_note-is_due.ensures
      c.in_ok-note.ensures,
  c.sameness_status.ensures,
  c.in_ok-push_str.ensures.bytes ∙ ap (λ z. string_bytes c.in_ok-text.text ++ z) c.as_str.ensures.value,
)
