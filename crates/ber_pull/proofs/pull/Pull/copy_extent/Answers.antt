use Rattle.std.proofs.Common.{ap}
use Rattle.x690.specs.ReadHeaders.{primitive_contents}
use Rattle.ber_pull.specs.Standing.{enclosing, failure}
use Rattle.ber_pull.proofs.Hearing.{hears_memory}
use Rattle.ber_pull.proofs.pull.Pull.copy_extent.Goals as goal

pub returns-then-is_err-clause-reads : goal.returns-then-is_err-clause-reads
returns-then-is_err-clause-reads g c = λ place.
    let stands = c.halt_without_memory.ensures.stands in
    let s = c.args.self.now.state in
    hears_memory (primitive_contents s.limits (enclosing s) place) (failure c.halt_without_memory.new.self.state) _ _ _ _
    (ap failure stands) (ap (λ s. s.taken) stands) (ap g.R.Source.remaining c.halt_without_memory.ensures.same)
