use Rattle.std.proofs.Common.{◌≤◌, length, subst, sym}
use Rattle.commands.proofs.ShortWords.{names_are_short}
use Rattle.commands.proofs.outcome.name.Goals as goal

pub returns-clause-short : goal.returns-clause-short
returns-clause-short c = subst (λ n. length n ≤ 11) (sym c.name.ensures) (names_are_short c.args.why)
