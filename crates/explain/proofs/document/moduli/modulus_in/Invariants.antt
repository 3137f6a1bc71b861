use Rattle.std.proofs.Common.{length, ◌≡◌}
use Rattle.explain.specs.Moduli.{modulus_in}
use Rattle.explain.proofs.document.moduli.modulus_in.Given as goal

abbrev pub invariant-loop-left : goal.invariant-loop-left
invariant-loop-left l = modulus_in l.octets l.left ≡ modulus_in l.octets l.elements

abbrev pub decreases-loop-left : goal.decreases-loop-left
decreases-loop-left l = length l.left
