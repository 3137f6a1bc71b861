use Rattle.std.proofs.Common.{◌∙◌, ap, length, map, sym}
use Rattle.x690_laws.proofs.LengthsOfTexts.{der_row}
use Rattle.asn_lists.specs.Containers.{list_items}
use Rattle.asn_lists.proofs.list.List.size_as.Goals as goal

pub returns : goal.returns
returns g c = c.size.ensures ∙ sym (ap length (der_row c.args.tag (map g.T.DerText.value (list_items c.args.self.now))))
