use Rattle.std.proofs.Common.{rules, ap}
use Rattle.tlv_core.specs.declared.reason.Reason.TheVariants.{BadLength}
use Rattle.x690.specs.Points.{fault}
use Rattle.x690.specs.ReadHeaders.{read_definite_length, read_number}
use Rattle.ber_pull.specs.Standing.{enclosing, failure}
use Rattle.ber_pull.proofs.Hearing.{hears_as, hears_halted, hears_error, hears_off, hears_on, hears_stop, hears_then}
use Rattle.ber_pull.proofs.Headers.{is_definite, not_definite}
use Rattle.ber_pull.proofs.pull.Pull.definite_length.Goals as goal

pub returns-in_err-first-clause-reads : goal.returns-in_err-first-clause-reads
unfolding read_definite_length
returns-in_err-first-clause-reads g c =
    hears_halted c.octet.new.self _ _ c.from_residual.result c.in_err-first.field-0.0 _ _ _ _ (search rules)
    (hears_error _ _ _ _ _ _ _ c.in_err-first.ensures.reads)

pub returns-then-first-clause-reads : goal.returns-then-first-clause-reads
unfolding read_definite_length
returns-then-first-clause-reads g c =
    hears_stop _ (fault c.args.start BadLength) _ _ _ _ _ _ _ (ap failure c.halt.ensures.stands)
    (ap (λ s. s.taken) c.halt.ensures.stands) (ap g.R.Source.remaining c.halt.ensures.same)
    (hears_then _ _ c.in_ok-first.first _ _ _ _ _ _ _ c.in_ok-first.ensures.reads
    (hears_off _ _ _ _ _ (not_definite _ c.then-first.either)))

pub returns-clause-reads : goal.returns-clause-reads
unfolding read_definite_length
returns-clause-reads g c =
    hears_then _ _ c.in_ok-first.first _ _ _ _ _ _ _ c.in_ok-first.ensures.reads
    (hears_on _ _ _ _ _ _ _ _ (is_definite _ c.in_ok-first.ensures.octet c.if-first.false c.if-first-2.false)
    (hears_as _ _ _ _ _ _ _
    (ap
    (λ s. read_number s.limits (enclosing s).nearest_end c.args.start c.in_ok-first.first) c.in_ok-first.ensures.stands)
    c.number.ensures.reads))
