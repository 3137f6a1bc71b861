use Rattle.std.proofs.Common.{◌+◌, ◌<◌, length, map, subst, sym}
use Rattle.tlv_core.specs.Sinks.{Puts, count}
use Rattle.x690_laws.proofs.LengthsOfTexts.{der_row}
use Rattle.asn_lists.specs.Containers.{list_items}
use Rattle.asn_lists.proofs.list.List.put_as.Goals as goal

pub put-requires : goal.put-requires
put-requires g c =
    subst (λ z. count c.args.sink.now + length z < 18446744073709551616)
    (der_row c.args.tag (map g.T.DerText.value (list_items c.args.self.now))) c.requires

pub returns : goal.returns
returns g c =
    subst (λ z. Puts z c.args.sink.now c.put.new.sink c.put.result)
    (sym (der_row c.args.tag (map g.T.DerText.value (list_items c.args.self.now)))) c.put.ensures
