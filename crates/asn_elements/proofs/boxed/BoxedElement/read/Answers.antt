use Rattle.std.proofs.Common.{rules, ap}
use Rattle.ber_pull.proofs.Hearing.{hears_then_memory}
use Rattle.asn_elements.proofs.boxed.BoxedElement.read.Goals as goal

pub returns-clause-reads : goal.returns-clause-reads
returns-clause-reads g c = λ given fine is.
    let read = c.in_ok-value.ensures.reads given fine is in
    let first = c.no_memory.ensures.first (search rules) in
    hears_then_memory _ read.0 c.no_memory.result _ _ _ _ _ _ first.0 (ap (λ z. z.taken) first.1)
    (ap g.R.Source.remaining c.no_memory.ensures.same) read.2
