-- What clauses see of a place among the arcs of an object identifier.
use Rattle.std.specs.Prelude.{ℕ, List}
use Rattle.tlv_core.specs.ObjectIdentifier.{LaterOctets}
use Rattle.tlv_core.specs.declared.oid.LaterArcs.{LaterArcs}

-- the octets of the arcs that are still to come
abbrev pub octets_left : LaterArcs → List ℕ
octets_left place = place.rest.now

-- These arcs are still to come.
abbrev pub StillToCome : List ℕ → LaterArcs → Type 0
StillToCome arcs place = LaterOctets arcs (octets_left place)
