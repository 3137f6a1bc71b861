use Rattle.std.proofs.Common.{length, subst, ◌∙◌}
use Rattle.explain.specs.Listings.{IsListed}
use Rattle.explain.specs.Places.{file_with}
use Rattle.explain.specs.Rules.{front_document}
use Rattle.explain.proofs.Pieces.{skip_none, whole}
use Rattle.explain.proofs.explained.front_lines.Goals as goal

pub returns : goal.returns
returns c =
    let lines = c.in_ok-lines.lines.items in
    subst (λ elements. IsListed (front_document c.args.answer c.args.front.now elements) c.args.insides.now lines)
    c.as_slice-elements.ensures.value
    (subst
    (λ causes. IsListed (file_with c.args.front.now c.as_slice-elements.result.now causes) c.args.insides.now lines)
    (c.as_slice.ensures.value ∙ c.in_ok-causes.ensures)
    (c.in_ok-lines.ensures (skip_none (whole (length c.args.front.now)))))
