use Rattle.std.proofs.Common.{drop, ◌≡◌}
use Rattle.x690.specs.DerTexts.{padded_less}
use Rattle.explain.proofs.listing.causes.is_less.Given as goal

abbrev pub invariant-loop-i : goal.invariant-loop-i
invariant-loop-i l = padded_less (drop l.i l.first) (drop l.i l.second) ≡ padded_less l.first l.second
