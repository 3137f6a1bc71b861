use Rattle.std.proofs.Common.{arith}
use Rattle.commands.proofs.Tallies.{reasons_are_few}
use Rattle.commands.proofs.tally.reason_number.Goals as goal

pub returns-in-Some-clause-small : goal.returns-in-Some-clause-small
returns-in-Some-clause-small c = omega (arith, c.number.ensures, reasons_are_few c.in-Some.why)
