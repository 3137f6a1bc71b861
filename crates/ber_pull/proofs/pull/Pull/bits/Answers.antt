use Rattle.std.proofs.Common.{rules, ◌≡◌, ap, ap₂, ◌∙◌}
use Rattle.ber_pull.proofs.Hearing.{hears_err, hears_error, hears_then}
use Rattle.x690.specs.Contents as values
use Rattle.ber_pull.specs.Calls.{read_bits}
use Rattle.ber_pull.specs.Segments.{joined_octets, joined_unused}
use Rattle.ber_pull.proofs.Hearing.{hears_done_as}
use Rattle.ber_pull.proofs.pull.Pull.bits.Goals as goal

pub returns-in_err-joined-clause-reads : goal.returns-in_err-joined-clause-reads
unfolding read_bits
returns-in_err-joined-clause-reads g c = λ given fine is.
    hears_err _ _ c.from_residual.result c.in_err-joined.field-0.0 _ _ _ _ (search rules)
    (hears_error _ _ _ _ _ _ _ (c.in_err-joined.ensures.reads given is))

pub returns-clause-reads : goal.returns-clause-reads
unfolding read_bits
returns-clause-reads g c = λ given fine is.
    let came = c.in_ok-joined.ensures.reads given is in
    let unused : c.in_ok-joined.joined.unused ≡ values.unused_bits came.0 =
    came.1.unused ∙ ap (λ b. joined_unused b came.0) c.in_ok-joined.ensures.kind in
    let octets : c.in_ok-joined.joined.octets.items ≡ values.bit_octets came.0 =
    came.1.octets ∙ ap (λ b. joined_octets b came.0) c.in_ok-joined.ensures.kind in
    hears_then _ _ came.0 _ _ _ _ _ _ _ came.2
    (hears_done_as _ _ _ _
    (ap₂ (λ u o. (u, o)) unused (c.clear_unused.ensures ∙ ap₂ values.clear_unused unused octets)))
