use Rattle.std.proofs.Common.{rules, arith, ◌≡◌, ◌==◌, true, false, refl, sym, ap, ◌∙◌}
use Rattle.std.proofs.lemmas.Bool.Decides.{nat_tests}
use Rattle.tlv_core.specs.declared.reason.Reason.TheVariants.{BadEnd}
use Rattle.x690.specs.Points.{fault}
use Rattle.ber_pull.specs.Standing.{failure}
use Rattle.ber_pull.proofs.Hearing.{hears_at, hears_done, hears_halted, hears_error, hears_off, hears_on, hears_stop, hears_then}
use Rattle.ber_pull.proofs.pull.Pull.end_of_contents.Goals as goal

pub returns-then-not-is_indefinite-clause-reads : goal.returns-then-not-is_indefinite-clause-reads
returns-then-not-is_indefinite-clause-reads g c =
    hears_stop _ (fault c.args.start BadEnd) _ _ _ _ _ _ _ (ap failure c.halt.ensures.stands) (ap (λ s. s.taken) c.halt.ensures.stands)
    (ap g.R.Source.remaining c.halt.ensures.same)
    (hears_off _ _ _ _ _ (sym c.is_indefinite.ensures ∙ c.if-not-is_indefinite.true))

pub returns-in_err-second-clause-reads : goal.returns-in_err-second-clause-reads
returns-in_err-second-clause-reads g c =
    hears_halted c.octet.new.self _ _ c.from_residual.result c.in_err-second.field-0.0 _ _ _ _ (search rules)
    (hears_on _ _ _ _ _ _ _ _ (sym c.is_indefinite.ensures ∙ c.if-not-is_indefinite.false)
    (hears_error _ _ _ _ _ _ _ c.in_err-second.ensures.reads))

pub returns-then-second-gt0-clause-reads : goal.returns-then-second-gt0-clause-reads
returns-then-second-gt0-clause-reads g c =
    let t : (c.in_ok-second.second == 0) ≡ false = let z = c.if-second-gt0.true in grind (arith, nat_tests) in
    hears_stop _ (fault c.args.start BadEnd) _ _ _ _ _ _ _ (ap failure c.halt-then-second-gt0.ensures.stands)
    (ap (λ s. s.taken) c.halt-then-second-gt0.ensures.stands)
    (ap g.R.Source.remaining c.halt-then-second-gt0.ensures.same)
    (hears_on _ _ _ _ _ _ _ _ (sym c.is_indefinite.ensures ∙ c.if-not-is_indefinite.false)
    (hears_then _ _ c.in_ok-second.second _ _ _ _ _ _ _ c.in_ok-second.ensures.reads (hears_off _ _ _ _ _ t)))

pub returns-clause-reads : goal.returns-clause-reads
returns-clause-reads g c =
    let t : (c.in_ok-second.second == 0) ≡ true = let z = c.if-second-gt0.false in grind (arith, nat_tests) in
    hears_at _ _ _ _ _ _ _ _ (ap (λ s. s.taken) c.end.ensures) refl
    (hears_on _ _ _ _ _ _ _ _ (sym c.is_indefinite.ensures ∙ c.if-not-is_indefinite.false)
    (hears_then _ _ c.in_ok-second.second _ _ _ _ _ _ _ c.in_ok-second.ensures.reads
    (hears_on _ _ _ _ _ _ _ _ t (hears_done _ _ _))))
