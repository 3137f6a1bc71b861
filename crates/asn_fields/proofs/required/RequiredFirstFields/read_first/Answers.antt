use Rattle.std.proofs.Common.{[]}
use Rattle.asn_fields.proofs.required.RequiredFirstFields.read_first.Goals as goal

pub returns-clause-reads : goal.returns-clause-reads
returns-clause-reads g c = λ k s whole finish rest a. c.read.ensures.reads k s whole finish rest [] a
