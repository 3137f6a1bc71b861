use Rattle.std.proofs.Common.{arith, subst, true, ◌+◌, ◌-◌, ◌≡◌}
use Rattle.explain.specs.Places.{is_in_first}
use Rattle.explain.proofs.Pieces.{skip_later}
use Rattle.explain.proofs.document.places.later_pieces.Goals as goal

pub returns-then-number-before-clause-skips : goal.returns-then-number-before-clause-skips
returns-then-number-before-clause-skips c = λ skips. c.pieces_from.ensures.skips

pub returns-clause-skips : goal.returns-clause-skips
returns-clause-skips c = λ skips.
    skip_later c.args.pieces.now c.args.before c.args.rest.now _ _ c.pieces_from-count.ensures.skips skips

pub returns-clause-here : goal.returns-clause-here
returns-clause-here c =
    let same : (c.args.number - c.args.before) - c.pieces_from-count.result.1
    ≡ c.args.number - (c.args.before + c.pieces_from-count.result.1) = omega arith in
    subst (λ number. is_in_first c.pieces_from-count.result.0.now number ≡ true) same c.pieces_from-count.ensures.here
