use Rattle.std.proofs.Common.{◌∙◌, ap, length, map, sym}
use Rattle.asn_lists.specs.Containers.{set_items}
use Rattle.asn_elements.proofs.ContainerTexts.{set_text}
use Rattle.asn_lists.proofs.set_of.SetOfImplicitText.size_as.Goals as goal

pub returns : goal.returns
returns g c =
    c.size.ensures
    ∙ sym (ap length (set_text c.args.tag (map g.T.DerText.value (set_items c.args.self.now)) c.args.self.now.in_order))
