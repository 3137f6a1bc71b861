use Rattle.std.proofs.Common.{IfOk, subst, sym}
use Rattle.pkder_c.specs.Wholes.{WholePart}
use Rattle.pkder_c.proofs.whole.whole_part.Goals as goal

pub returns-in-Written-clause-part : goal.returns-in-Written-clause-part
returns-in-Written-clause-part c =
    subst (λ part. IfOk c.whole_written.result (λ text. WholePart c.args.limits part c.args.src.now text.items))
    (sym c.in-Written.is) c.whole_written.ensures.part

pub returns-in-Received-clause-part : goal.returns-in-Received-clause-part
returns-in-Received-clause-part c =
    subst (λ part. IfOk c.whole_received.result (λ text. WholePart c.args.limits part c.args.src.now text.items))
    (sym c.in-Received.is) c.whole_received.ensures.part
