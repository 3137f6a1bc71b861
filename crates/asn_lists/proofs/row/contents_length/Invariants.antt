use Rattle.std.proofs.Common.{◌≡◌, ◌≤◌, ◌+◌, drop, length, map}
use Rattle.x690.specs.DerTexts.{texts_of}
use Rattle.asn_lists.proofs.row.contents_length.Given as goal

abbrev pub invariant-loop-item : goal.invariant-loop-item
invariant-loop-item g l =
    let values = map g.T.DerText.value l.items in
    (l.content ≤ 1099511627776) × (l.content + length (texts_of (drop l.item-index values)) ≡ length (texts_of values))
