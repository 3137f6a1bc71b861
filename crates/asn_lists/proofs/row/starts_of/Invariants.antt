use Rattle.std.proofs.Common.{◌≡◌, ◌+◌, ◌++◌, drop, length, map}
use Rattle.x690.specs.DerTexts.{texts_of}
use Rattle.asn_elements.specs.Members.{starts_from}
use Rattle.asn_lists.proofs.row.starts_of.Given as goal

abbrev pub invariant-loop-item : goal.invariant-loop-item
invariant-loop-item g l =
    let values = map g.T.DerText.value l.items in
    (l.end + length (texts_of (drop l.item-index values)) ≡ l.place + length (texts_of values))
    × (l.starts.items ++ starts_from l.end (drop l.item-index values) ≡ starts_from l.place values)
