use Rattle.std.proofs.Common.{[], ◌++◌, ◌∷◌, ◌∙◌, ap, ap₂}
use Rattle.commands.specs.Tallies.{kind_row, raised, reason_row, verdict_row}
use Rattle.commands.specs.declared.tally.Tally.{Tally}
use Rattle.commands.proofs.Tallies.{counts_more, files_more, status_more, tally_from}
use Rattle.commands.proofs.tally.Tally.with.Goals as goal

pub returns : goal.returns
returns c =
    λ all was.
    let old = c.args.self in
    let verdict = c.args.verdict in
    tally_from (all ++ verdict ∷ []) c.max.result c.saturating_add.result c.raise.new.counts c.raise-2.new.counts c.raise-3.new.counts
    (status_more all verdict old.status c.status_of_verdict.result c.max.result (ap (λ (it : Tally). it.status) was)
    c.status_of_verdict.ensures c.max.ensures)
    (files_more all verdict old.files c.saturating_add.result (ap (λ (it : Tally). it.files) was)
    c.saturating_add.ensures)
    (c.raise.ensures ∙ (ap₂ raised (ap (λ (it : Tally). it.verdicts) was) c.verdict_row.ensures
    ∙ counts_more verdict_row 5 all verdict))
    (c.raise-2.ensures ∙ (ap₂ raised (ap (λ (it : Tally). it.kinds) was) c.kind_row.ensures
    ∙ counts_more kind_row 21 all verdict))
    (c.raise-3.ensures ∙ (ap₂ raised (ap (λ (it : Tally). it.reasons) was) c.reason_row.ensures
    ∙ counts_more reason_row 28 all verdict))
