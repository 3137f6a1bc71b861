use Rattle.std.proofs.Common.{subst}
use Rattle.commands.specs.Each.{IsBegun}
use Rattle.commands.proofs.EachSteps.{isnt_never, others_never, others_so}
use Rattle.commands.proofs.each.begun_so.Goals as goal

pub returns-in-Never : goal.returns-in-Never
returns-in-Never c =
    λ limits octets kind others not first later. others_never limits octets kind others c.args.begun not first
    (subst (IsBegun limits octets others) c.in-Never.is later)

pub returns-in-Document : goal.returns-in-Document
returns-in-Document c =
    λ limits octets kind others not first later. others_so limits octets kind others c.args.begun c.args.later
    (isnt_never c.args.later c.in-Document.is) not first later
