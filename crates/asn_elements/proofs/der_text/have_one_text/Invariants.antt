use Rattle.std.proofs.Common.{◌≡◌, take}
use Rattle.x690.specs.DerTexts.{der}
use Rattle.asn_elements.proofs.der_text.have_one_text.Given as goal

abbrev pub invariant-loop-i : goal.invariant-loop-i
invariant-loop-i g l = take l.i (der (g.T.DerText.value l.value)) ≡ take l.i (der (g.T.DerText.value l.other))
