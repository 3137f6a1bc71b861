use Rattle.std.proofs.Common.{◌∙◌, ap, refl}
use Rattle.std.proofs.lemmas.Result.{err_from_is_err_and}
use Rattle.x690.specs.Answers.{Spelled}
use Rattle.x690.specs.DerTexts.{der}
use Rattle.pk_documents.specs.Kinds.{type_of}
use Rattle.pk_documents.proofs.DocumentValues.{valued}
use Rattle.commands.proofs.Replies.{no_memory}
use Rattle.commands.proofs.reply.show_lines.Goals as goal

pub returns-clause-replied : goal.returns-clause-replied
returns-clause-replied g c =
    let reads = c.in_ok-document.ensures in (
      c.in_ok-document.document,
      c.in_ok-document._taken,
      reads.kind,
      reads.reads,
      reads.ends,
      refl,
      c.in_ok-text.ensures,
    )

pub returns-in_err-text-clause-replied : goal.returns-in_err-text-clause-replied
returns-in_err-text-clause-replied g c =
    let l = c.args.task.now.limits in
    let T = type_of c.args.task.now.kind in
    let before = g.R.Source.remaining c.args.src.now in
    let after = g.R.Source.remaining c.read_whole_document.new.src in
    let reads = c.in_ok-document.ensures.reads in
    let text = der (valued c.in_ok-document.document) in
    let p = err_from_is_err_and c.from_residual-in_err-text.result c.from_residual-in_err-text.ensures.1 in
    rw (p.1, p.2) (no_memory l T before after reads.octets text reads.takes
    (λ more. reads.answers more ∙ ap (Spelled text) reads.taken_are) reads.spells.octets_fit)
