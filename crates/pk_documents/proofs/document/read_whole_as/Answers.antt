use Rattle.std.proofs.Common.{subst, sym}
use Rattle.x690.specs.Premises.{Lawful}
use Rattle.asn_documents.proofs.WholeInputs.{unread_whole}
use Rattle.pk_documents.proofs.document.read_whole_as.Goals as goal

pub returns-in-Err-clause-reads : goal.returns-in-Err-clause-reads
returns-in-Err-clause-reads g c =
    unread_whole c.args.limits g.T.Element.type_term c.in-Err.error (g.R.Source.remaining c.args.src.now)
    (g.R.Source.remaining c.read_whole_input.new.src) (subst Lawful (sym c.requires.term) g.met.T.DocumentOf.lawful)
    c.in-Err.ensures.inside c.in-Err.ensures.reads
