use Rattle.std.proofs.Common.{ap}
use Rattle.x690.specs.ReadHeaders.{next_octets}
use Rattle.ber_pull.specs.Standing.{failure}
use Rattle.ber_pull.proofs.Hearing.{hears_memory}
use Rattle.ber_pull.proofs.pull.Pull.copy_held.Goals as goal

pub returns-then-is_err-clause-adds : goal.returns-then-is_err-clause-adds
returns-then-is_err-clause-adds g c =
    let stands = c.halt_without_memory.ensures.stands in
    hears_memory (next_octets c.args.most) (failure c.halt_without_memory.new.self.state) _ _ _ _
    (ap failure stands) (ap (λ s. s.taken) stands) (ap g.R.Source.remaining c.halt_without_memory.ensures.same)
