use Rattle.std.proofs.Common.{◌≡◌, map}
use Rattle.x690.specs.DerTexts.{texts_of}
use Rattle.asn_lists.proofs.order.add_keys.Given as goal

abbrev pub invariant-loop-item : goal.invariant-loop-item
invariant-loop-item g l =
    (map (λ k. k.item) l.keys.items ≡ l.yielded)
    × (l.rest ≡ texts_of (map g.T.DerText.value l.item-iterator.rest.items))
