use Rattle.std.proofs.Common.{◌≡◌, map}
use Rattle.asn_lists.proofs.order.drop_keys.Given as goal

abbrev pub invariant-loop-key : goal.invariant-loop-key
invariant-loop-key g l = l.items.items ≡ map (λ k. k.item) l.yielded
