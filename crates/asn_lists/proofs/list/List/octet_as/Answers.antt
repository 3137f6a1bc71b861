use Rattle.std.proofs.Common.{◌∙◌, ap, map, slice_get, sym}
use Rattle.x690_laws.proofs.LengthsOfTexts.{der_row}
use Rattle.asn_lists.specs.Containers.{list_items}
use Rattle.asn_lists.proofs.list.List.octet_as.Goals as goal

pub returns : goal.returns
returns g c =
    c.octet.ensures
    ∙ sym (ap (λ z. slice_get z c.args.i) (der_row c.args.tag (map g.T.DerText.value (list_items c.args.self.now))))
