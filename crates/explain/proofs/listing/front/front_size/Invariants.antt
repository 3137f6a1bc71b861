use Rattle.std.proofs.Common.{drop, ◌≡◌}
use Rattle.explain.specs.Fronts.{read_from, start}
use Rattle.explain.proofs.listing.front.front_size.Given as goal

abbrev pub invariant-loop-i : goal.invariant-loop-i
invariant-loop-i l = read_from l.octets l.state (drop l.i l.elements) ≡ read_from l.octets start l.elements
