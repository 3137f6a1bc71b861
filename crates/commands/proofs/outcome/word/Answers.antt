use Rattle.std.proofs.Common.{◌≤◌, length, subst, sym}
use Rattle.commands.proofs.ShortWords.{words_are_short}
use Rattle.commands.proofs.outcome.word.Goals as goal

pub returns-clause-short : goal.returns-clause-short
returns-clause-short c = subst (λ n. length n ≤ 9) (sym c.row.ensures.word) (words_are_short c.args.kind)
