use Rattle.x690_laws.proofs.TextsAsLayouts.{canonical}
use Rattle.asn_elements.proofs.der_text.DerText.same.Goals as goal

pub returns : goal.returns
returns g c =
    let value = g.Self.DerText.value c.args.self.now in
    let other = g.Self.DerText.value c.args.other.now in
    let one = c.have_one_text.ensures in (
      λ same. g.Self.DerText.one_text c.args.self.now c.args.other.now (one.0 same),
      λ same. one.1 (canonical value other same),
    )
