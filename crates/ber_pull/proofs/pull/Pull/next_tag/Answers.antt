use Rattle.std.proofs.Common.{rules, sym, ◌∙◌}
use Rattle.ber_pull.proofs.Hearing.{hears_error_as}
use Rattle.ber_pull.proofs.Nexts.{next_done, next_given}
use Rattle.ber_pull.proofs.pull.Pull.next_tag.Goals as goal

pub returns-in-Some-clause-reads : goal.returns-in-Some-clause-reads
returns-in-Some-clause-reads g c = λ fine. next_given c.args.self.now.state c.in-Some.given _ (search rules)

pub returns-then-is_done-clause-reads : goal.returns-then-is_done-clause-reads
returns-then-is_done-clause-reads g c = λ fine.
    next_done c.args.self.now.state _ (sym c.given.ensures.value ∙ c.in_default.is)
    (sym c.is_done.ensures ∙ c.if-is_done.true)

pub returns-in-Err-clause-reads : goal.returns-in-Err-clause-reads
returns-in-Err-clause-reads g c = λ fine. hears_error_as _ _ _ _ _ _ _ c.failure-in-Err.ensures c.in-Err.ensures.reads
