use Rattle.std.proofs.Common.{rules, ◌≡◌, ◌∙◌, ap, false, sym}
use Rattle.x690.specs.ReadHeaders.{primitive_contents}
use Rattle.ber_pull.specs.Standing.{enclosing}
use Rattle.ber_pull.proofs.Hearing.{hears_as, hears_err, hears_error_as}
use Rattle.ber_pull.proofs.Strings.{octets_one, octets_stop}
use Rattle.ber_pull.proofs.pull.Pull.octets_into.Goals as goal

pub returns-in_err-joined-clause-reads : goal.returns-in_err-joined-clause-reads
returns-in_err-joined-clause-reads g c = λ given fine is.
    hears_err _ _ c.from_residual.result c.in_err-joined.field-0.0 _ _ _ _ (search rules)
    (c.in_err-joined.ensures.reads given fine is)

pub returns-then-given-clause-reads : goal.returns-then-given-clause-reads
returns-then-given-clause-reads g c = λ given fine is. c.in_ok-joined.ensures.reads given fine is

pub returns-in-Err-clause-reads : goal.returns-in-Err-clause-reads
returns-in-Err-clause-reads g c = λ given fine is.
    let s = c.args.self.now.state in
    let same : c.unwrap-given.result ≡ given = cc in
    let plain : given.constructed ≡ false = ap (λ w. w.constructed) (sym same) ∙ c.if-given.false in
    hears_error_as _ _ _ _ _ _ _ c.failure-in-Err.ensures
    (octets_stop s given _ _ _ _ _ plain
    (hears_as _ _ _ _ _ _ _
    (ap (λ w. primitive_contents s.limits (enclosing s) w.at) same) c.in-Err.ensures.reads))

pub returns-in-Ok-clause-reads : goal.returns-in-Ok-clause-reads
returns-in-Ok-clause-reads g c = λ given fine is.
    let s = c.args.self.now.state in
    let same : c.unwrap-given.result ≡ given = cc in
    let plain : given.constructed ≡ false = ap (λ w. w.constructed) (sym same) ∙ c.if-given.false in
    octets_one s given _ _ _ _ _ plain
    (hears_as _ _ _ _ _ _ _
    (ap (λ w. primitive_contents s.limits (enclosing s) w.at) same) c.in-Ok.ensures.reads)
