use Rattle.std.proofs.Common.{List, ℕ, ◌≡◌, ◌++◌, length, string_bytes}
use Rattle.tlv_core.specs.LaterArcs.{StillToCome, octets_left}
use Rattle.tlv_core.specs.Texts.{arcs_of, dotted}
use Rattle.tlv_core.proofs.Arcs.{behind_stops}
use Rattle.tlv_core.proofs.text.push_oid.Given as goal

abbrev pub invariant-loop-arc : goal.invariant-loop-arc
invariant-loop-arc l =
    (arcs : List ℕ) × StillToCome arcs l.later
    × (string_bytes l.text ++ behind_stops arcs ≡ string_bytes l.fn.text ++ dotted (arcs_of l.id))

abbrev pub decreases-loop-arc : goal.decreases-loop-arc
decreases-loop-arc l = length (octets_left l.later)
