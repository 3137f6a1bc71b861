use Rattle.std.proofs.Common.{rules}
use Rattle.asn_documents.proofs.Normalising.{written_as_given}
use Rattle.asn_documents.proofs.in_der.are_in_der.Goals as goal

pub returns-in-Some : goal.returns-in-Some
returns-in-Some g c = λ same.
    written_as_given c.args.limits g.T.Element.type_term c.args.octets.now c.in-Some.taken c.requires (search rules)
    c.in-Some.ensures (search (rules, same))
