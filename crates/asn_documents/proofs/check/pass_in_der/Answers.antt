use Rattle.std.proofs.Common.{ap, arith, length, rules, subst, sym, take}
use Rattle.std.specs.Io.KnownBytes.{Consumes}
use Rattle.asn_documents.proofs.CheckValues.{passed_in_der}
use Rattle.asn_documents.proofs.check.pass_in_der.Goals as goal

pub pass-requires : goal.pass-requires
pass-requires g c = omega (arith, ap length c.held.ensures, c.in_ok-taken.ensures.within)

pub returns-clause-passed : goal.returns-clause-passed
returns-clause-passed g c =
    let before = g.R.Source.remaining c.args.src.now in
    let after = g.R.Source.remaining c.pass.new.self in
    passed_in_der c.args.limits g.T.Element.type_term c.held.result.now before after c.in_ok-taken.taken c.requires
    (search rules) c.in_ok-taken.ensures
    (subst (λ z. Consumes before after (take c.in_ok-taken.taken z)) (sym c.held.ensures) c.pass.ensures.octets)
