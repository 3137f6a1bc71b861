use Rattle.std.proofs.Common.{◌≡◌, ◌++◌, take, flat_map}
use Rattle.tlv_core.specs.Identifier.{base128}
use Rattle.tlv_core.proofs.oid.Oid.from_arcs.Given as goal

abbrev pub invariant-loop-arc : goal.invariant-loop-arc
invariant-loop-arc l = l.contents.items ≡ base128 l.first ++ flat_map base128 (take l.arc-index l.arc-items)
