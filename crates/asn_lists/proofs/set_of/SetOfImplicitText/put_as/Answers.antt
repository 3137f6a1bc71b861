use Rattle.std.proofs.Common.{◌+◌, ◌<◌, length, map, subst, sym}
use Rattle.tlv_core.specs.Sinks.{Puts, count}
use Rattle.asn_lists.specs.Containers.{set_items}
use Rattle.asn_elements.proofs.ContainerTexts.{set_text}
use Rattle.asn_lists.proofs.set_of.SetOfImplicitText.put_as.Goals as goal

pub put-requires : goal.put-requires
put-requires g c =
    subst (λ z. count c.args.sink.now + length z < 18446744073709551616)
    (set_text c.args.tag (map g.T.DerText.value (set_items c.args.self.now)) c.args.self.now.in_order) c.requires

pub returns : goal.returns
returns g c =
    subst (λ z. Puts z c.args.sink.now c.put.new.sink c.put.result)
    (sym (set_text c.args.tag (map g.T.DerText.value (set_items c.args.self.now)) c.args.self.now.in_order))
    c.put.ensures
