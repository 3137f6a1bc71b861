use Rattle.std.proofs.Common.{◌∙◌, sym}
use Rattle.pkder.proofs.Tables.{found_first, found_later}
use Rattle.pkder.proofs.command.+named.Goals as goal

pub returns-then-eq : goal.returns-then-eq
returns-then-eq t c =
    found_first c.args.word.now c.args.among.now _ c.in-len1-up.len_at_least (sym c.eq.ensures ∙ c.if-eq.true)

pub returns-else-eq : goal.returns-else-eq
returns-else-eq t c =
    c.named.ensures
    ∙ found_later c.args.word.now c.args.among.now _ c.in-len1-up.len_at_least (sym c.eq.ensures ∙ c.if-eq.false)
