use Rattle.std.proofs.Common.{◌<◌, length, subst, sym}
use Rattle.commands.proofs.ShortWords.{whys_are_short}
use Rattle.commands.proofs.files.why_unopened.Goals as goal

pub returns-clause-short : goal.returns-clause-short
returns-clause-short c = subst (λ n. length n < 128) (sym c.why.ensures) (whys_are_short c.args.why)
