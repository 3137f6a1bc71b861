use Rattle.std.proofs.Common.{◌≡◌, take}
use Rattle.tlv_core.specs.Identifier.{leading_base128}
use Rattle.tlv_core.proofs.subidentifier.wide_subidentifier.Given as goal

abbrev pub invariant-loop-i : goal.invariant-loop-i
invariant-loop-i l = take l.i l.octets ≡ leading_base128 l.number l.number
