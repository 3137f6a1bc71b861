use Rattle.std.proofs.Common.{◌≡◌, List, map, take}
use Rattle.x690.specs.DerTexts.{der}
use Rattle.x690.specs.Values.{Value}
use Rattle.asn_elements.specs.Members.{StandIn}
use Rattle.asn_open_values.proofs.texts.cut.Given as goal

abbrev pub invariant-loop-i : goal.invariant-loop-i
invariant-loop-i l =
    (values : List Value) → StandIn values l.octets l.starts
    → map (λ t. t.now) l.texts.items ≡ take l.i (map der values)
