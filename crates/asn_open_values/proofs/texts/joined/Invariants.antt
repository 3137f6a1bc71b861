use Rattle.std.proofs.Common.{◌≡◌, map, take}
use Rattle.x690.specs.Lists.{join}
use Rattle.asn_open_values.proofs.texts.joined.Given as goal

abbrev pub invariant-loop-text : goal.invariant-loop-text
invariant-loop-text l = l.octets.items ≡ join (map (λ t. t.now) (take l.text-index l.texts))
