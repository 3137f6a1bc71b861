use Rattle.std.proofs.Common.{map, rules, sym}
use Rattle.std.proofs.lemmas.Option.{slice_get_past}
use Rattle.x690.specs.DerTexts.{der}
use Rattle.asn_lists.specs.Containers.{set_items}
use Rattle.asn_elements.proofs.Ascending.{ascends_is}
use Rattle.asn_lists.proofs.set_of.SetOf.get.Goals as goal

pub returns-then-i-len-clause-in_order : goal.returns-then-i-len-clause-in_order
returns-then-i-len-clause-in_order g c =
    ascends_is (map der (map g.T.DerText.value (set_items c.args.self.now))) c.args.self.now.in_order

pub returns-else-i-len-clause-member : goal.returns-else-i-len-clause-member
returns-else-i-len-clause-member g c = sym (slice_get_past (set_items c.args.self.now) c.args.i (search rules))

pub returns-else-i-len-clause-in_order : goal.returns-else-i-len-clause-in_order
returns-else-i-len-clause-in_order g c =
    ascends_is (map der (map g.T.DerText.value (set_items c.args.self.now))) c.args.self.now.in_order
