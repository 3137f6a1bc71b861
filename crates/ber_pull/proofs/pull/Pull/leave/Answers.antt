use Rattle.std.proofs.Common.{rules, sym, ap, refl, ◌∙◌}
use Rattle.ber_pull.proofs.Hearing.{hears_at}
use Rattle.ber_pull.proofs.Containers.{leave_ended}
use Rattle.ber_pull.proofs.Nexts.{next_done}
use Rattle.ber_pull.proofs.pull.Pull.leave.Goals as goal

pub returns-then-is_done-clause-reads : goal.returns-then-is_done-clause-reads
returns-then-is_done-clause-reads g c = λ fine.
    hears_at _ _ _ _ _ _ _ _ (ap (λ s. s.taken) c.close.ensures) refl
    (leave_ended _ _ _ _ _ _
    (next_done c.args.self.now.state _ (search rules) (sym c.is_done.ensures ∙ c.if-is_done.true)))
