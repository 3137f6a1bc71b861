use Rattle.std.proofs.Common.{◌≤◌, subst, sym}
use Rattle.asn_elements.proofs.BitReadings.{few_unused}
use Rattle.asn_elements.proofs.bits.Bits.unused.Goals as goal

pub returns-clause-few : goal.returns-clause-few
returns-clause-few c =
    subst (λ z. z ≤ 7) (sym c.index.ensures)
    (few_unused c.args.self.now.contents.items c.index.result.now c.args.self.now.some c.args.self.now.whole)
