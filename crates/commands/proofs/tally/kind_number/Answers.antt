use Rattle.std.proofs.Common.{arith}
use Rattle.commands.proofs.Tallies.{kinds_are_few}
use Rattle.commands.proofs.tally.kind_number.Goals as goal

pub returns-in-Some-clause-small : goal.returns-in-Some-clause-small
returns-in-Some-clause-small c = omega (arith, c.row.ensures.number, kinds_are_few c.in-Some.kind)
