use Rattle.std.proofs.lemmas.Result.{err_from_is_err_and}
use Rattle.asn_documents.proofs.Normalising.{took_answers}
use Rattle.pk_documents.proofs.LawfulKinds.{kinds_are_lawful}
use Rattle.pk_documents.specs.Kinds.{type_of}
use Rattle.commands.proofs.Replies.{no_memory}
use Rattle.commands.proofs.reply.check_line.Goals as goal

pub returns-clause-replied : goal.returns-clause-replied
returns-clause-replied g c =
    let checked = c.in_ok-_taken.ensures.checked in (
      checked.0,
      c.in_ok-_taken._taken,
      c.in_ok-_taken.place,
      checked.1,
      c.in_ok-_taken.ensures.ends,
      c.checked.ensures.outcome,
      c.in_ok-text.ensures,
    )

pub returns-in_err-text-clause-replied : goal.returns-in_err-text-clause-replied
returns-in_err-text-clause-replied g c =
    let l = c.args.task.now.limits in
    let T = type_of c.args.task.now.kind in
    let before = g.R.Source.remaining c.args.src.now in
    let after = g.R.Source.remaining c.check_whole_document.new.src in
    let checked = c.in_ok-_taken.ensures.checked in
    let p = err_from_is_err_and c.from_residual-in_err-text.result c.from_residual-in_err-text.ensures.1 in
    rw (p.1, p.2) (no_memory l T before after checked.1.took.octets _ checked.1.took.takes
    (took_answers l T checked.0 before after _ (kinds_are_lawful c.args.task.now.kind) checked.1.took)
    checked.1.took.spells.octets_fit)
