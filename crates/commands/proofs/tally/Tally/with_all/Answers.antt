use Rattle.std.proofs.Common.{◌++◌, ap}
use Rattle.commands.specs.Tallies.{kind_row, reason_row, verdict_row}
use Rattle.commands.specs.declared.tally.Tally.{Tally}
use Rattle.commands.proofs.Tallies.{files-append, rows-append, status-append, tally_from}
use Rattle.commands.proofs.tally.Tally.with_all.Goals as goal

pub returns : goal.returns
returns c =
    λ all others was is.
    let old = c.args.self in
    let more = c.args.other.now in
    tally_from (all ++ others) c.max.result c.saturating_add.result c.raise_all.new.counts c.raise_all-2.new.counts
    c.raise_all-3.new.counts
    (status-append all others old.status more.status c.max.result (ap (λ (it : Tally). it.status) was)
    (ap (λ (it : Tally). it.status) is) c.max.ensures)
    (files-append all others old.files more.files c.saturating_add.result (ap (λ (it : Tally). it.files) was)
    (ap (λ (it : Tally). it.files) is) c.saturating_add.ensures)
    (rows-append verdict_row 5 all others old.verdicts more.verdicts c.raise_all.new.counts
    (ap (λ (it : Tally). it.verdicts) was) (ap (λ (it : Tally). it.verdicts) is) c.raise_all.ensures.len
    c.raise_all.ensures.sums)
    (rows-append kind_row 21 all others old.kinds more.kinds c.raise_all-2.new.counts
    (ap (λ (it : Tally). it.kinds) was) (ap (λ (it : Tally). it.kinds) is) c.raise_all-2.ensures.len
    c.raise_all-2.ensures.sums)
    (rows-append reason_row 28 all others old.reasons more.reasons c.raise_all-3.new.counts
    (ap (λ (it : Tally). it.reasons) was) (ap (λ (it : Tally). it.reasons) is) c.raise_all-3.ensures.len
    c.raise_all-3.ensures.sums)
