use Rattle.std.proofs.Common.{length, ◌++◌, ◌≡◌}
use Rattle.explain.specs.Insides.{deeper_contents, deeper_pieces}
use Rattle.explain.proofs.document.inside.push_deeper.Given as goal

abbrev pub invariant-loop-left : goal.invariant-loop-left
invariant-loop-left l = record {
  octets : l.octets.items ++ deeper_contents l.file l.depth l.left
      ≡ l.fn.octets.items ++ deeper_contents l.file l.depth l.elements;
  pieces : l.pieces.items ++ deeper_pieces l.file l.depth l.left
      ≡ l.fn.pieces.items ++ deeper_pieces l.file l.depth l.elements;
}

abbrev pub decreases-loop-left : goal.decreases-loop-left
decreases-loop-left l = length l.left
