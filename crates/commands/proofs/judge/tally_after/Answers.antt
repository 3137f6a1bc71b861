use Rattle.std.proofs.Common.{[], ◌∷◌, ◌∙◌, Some, ap}
use Rattle.commands.specs.Tallies.{tally_of}
use Rattle.commands.proofs.Judgements.{goes_on_after}
use Rattle.commands.proofs.judge.tally_after.Goals as goal

pub returns-in_default : goal.returns-in_default
returns-in_default c =
    let end = c.args.end.now in
    ap Some (c.of_one.ensures ∙ ap (λ it. tally_of (it ∷ [])) c.verdict_of.ensures)
    ∙ goes_on_after end.outcome end.kind c.in_default.not-WriteFailed
