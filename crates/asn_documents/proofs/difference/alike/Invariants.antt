use Rattle.std.proofs.Common.{◌≡◌, take}
use Rattle.asn_documents.proofs.difference.alike.Given as goal

abbrev pub invariant-loop-i : goal.invariant-loop-i
invariant-loop-i l = take l.i l.octets ≡ take l.i l.piece
