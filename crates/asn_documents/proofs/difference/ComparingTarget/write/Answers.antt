use Rattle.std.proofs.Common.{rules, arith, ap, refl, sym, ◌∙◌, ◌+◌, take}
use Rattle.asn_documents.proofs.Comparing.{not_alike, told_on}
use Rattle.asn_documents.proofs.difference.ComparingTarget.write.Goals as goal

pub returns-then-count-gt0-clause-octets : goal.returns-then-count-gt0-clause-octets
returns-then-count-gt0-clause-octets c =
    told_on c.args.self.now.octets.now c.args.self.now.octets.now c.args.piece.now c.args.self.now.at
    (c.args.self.now.at + c.alike-count.result) c.alike-count.result c.args.self.now.other c.args.self.now.other refl
    (search rules) (search rules) refl
    (ap (take c.alike-count.result) (sym c.behind.ensures) ∙ c.alike-count.ensures.same)

pub invariant_of-self-2-clause-differs : goal.invariant_of-self-2-clause-differs
invariant_of-self-2-clause-differs c = λ o e h.
    not_alike c.args.self.now.octets.now c.behind.result.now c.args.piece.now c.args.self.now.at c.alike-count.result o
    c.behind.ensures
    (omega (arith, c.if-count-gt0.false)) (search rules) c.alike-count.ensures.first e h
