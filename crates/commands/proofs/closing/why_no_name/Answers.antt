use Rattle.std.proofs.Common.{◌<◌, length, subst, sym}
use Rattle.commands.proofs.ShortWords.{faults_are_short}
use Rattle.commands.proofs.closing.why_no_name.Goals as goal

pub returns-clause-short : goal.returns-clause-short
returns-clause-short c = subst (λ n. length n < 128) (sym c.why.ensures) (faults_are_short c.args.fault)
