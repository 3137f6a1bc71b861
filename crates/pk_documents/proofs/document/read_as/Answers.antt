use Rattle.std.proofs.Common.{rules, subst, sym}
use Rattle.x690.specs.Premises.{Lawful}
use Rattle.asn_documents.proofs.Normalising.{unread_as}
use Rattle.pk_documents.proofs.document.read_as.Goals as goal

pub returns-in-Err-clause-reads : goal.returns-in-Err-clause-reads
returns-in-Err-clause-reads g c =
    let unread =
    unread_as c.args.limits g.T.Element.type_term c.in-Err.error (g.R.Source.remaining c.args.src.now)
    (g.R.Source.remaining c.read_value.new.src) (subst Lawful (sym c.requires.term) g.met.T.DocumentOf.lawful)
    c.in-Err.ensures.inside c.in-Err.ensures.reads in
    search rules
