use Rattle.std.proofs.Common.{rules, ap, ◌∙◌}
use Rattle.ber_pull.proofs.Hearing.{hears_err, hears_error, hears_then}
use Rattle.ber_pull.specs.Calls.{read_octets}
use Rattle.ber_pull.specs.Segments.{joined_octets}
use Rattle.ber_pull.proofs.Hearing.{hears_done_as}
use Rattle.ber_pull.proofs.pull.Pull.octets.Goals as goal

pub returns-in_err-joined-clause-reads : goal.returns-in_err-joined-clause-reads
unfolding read_octets
returns-in_err-joined-clause-reads g c = λ given fine is.
    hears_err _ _ c.from_residual.result c.in_err-joined.field-0.0 _ _ _ _ (search rules)
    (hears_error _ _ _ _ _ _ _ (c.in_err-joined.ensures.reads given is))

pub returns-clause-reads : goal.returns-clause-reads
unfolding read_octets
returns-clause-reads g c = λ given fine is.
    let came = c.in_ok-joined.ensures.reads given is in
    hears_then _ _ came.0 _ _ _ _ _ _ _ came.2
    (hears_done_as _ _ _ _ (came.1.octets ∙ ap (λ b. joined_octets b came.0) c.in_ok-joined.ensures.kind))
