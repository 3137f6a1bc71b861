use Rattle.std.proofs.Common.{length, ◌≡◌}
use Rattle.explain.specs.Moduli.{modulus_of}
use Rattle.explain.proofs.document.moduli.modulus_of.Given as goal

abbrev pub invariant-loop-left : goal.invariant-loop-left
invariant-loop-left l = modulus_of l.left ≡ modulus_of l.insides

abbrev pub decreases-loop-left : goal.decreases-loop-left
decreases-loop-left l = length l.left
