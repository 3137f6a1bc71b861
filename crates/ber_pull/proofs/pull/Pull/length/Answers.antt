use Rattle.std.proofs.Common.{rules, arith, ◌≡◌, ◌==◌, true, false, nat_lt, refl, ap}
use Rattle.std.proofs.lemmas.Bool.Decides.{nat_tests}
use Rattle.tlv_core.specs.declared.reason.Reason.TheVariants.{BadLength}
use Rattle.x690.specs.Points.{fault}
use Rattle.x690.specs.ReadHeaders.{read_length, read_number}
use Rattle.ber_pull.specs.Standing.{enclosing, failure}
use Rattle.ber_pull.proofs.Hearing.{hears_as, hears_done, hears_halted, hears_error, hears_first, hears_off, hears_on, hears_second, hears_stop, hears_then}
use Rattle.ber_pull.proofs.Headers.{is_used}
use Rattle.ber_pull.proofs.pull.Pull.length.Goals as goal

pub returns-in_err-first-clause-reads : goal.returns-in_err-first-clause-reads
unfolding read_length
returns-in_err-first-clause-reads g c =
    hears_halted c.octet.new.self _ _ c.from_residual.result c.in_err-first.field-0.0 _ _ _ _ (search rules)
    (hears_error _ _ _ _ _ _ _ c.in_err-first.ensures.reads)

pub returns-then-first-clause-reads : goal.returns-then-first-clause-reads
unfolding read_length
returns-then-first-clause-reads g c =
    let t : nat_lt c.in_ok-first.first 255 ≡ false = rw c.if-first.true refl in
    hears_stop _ (fault c.args.start BadLength) _ _ _ _ _ _ _ (ap failure c.halt.ensures.stands)
    (ap (λ s. s.taken) c.halt.ensures.stands) (ap g.R.Source.remaining c.halt.ensures.same)
    (hears_then _ _ c.in_ok-first.first _ _ _ _ _ _ _ c.in_ok-first.ensures.reads (hears_off _ _ _ _ _ t))

pub returns-then-first-2-clause-reads : goal.returns-then-first-2-clause-reads
unfolding read_length
returns-then-first-2-clause-reads g c =
    let t : (c.in_ok-first.first == 128) ≡ true = rw c.if-first-2.true refl in
    hears_then _ _ c.in_ok-first.first _ _ _ _ _ _ _ c.in_ok-first.ensures.reads
    (hears_on _ _ _ _ _ _ _ _ (is_used _ c.in_ok-first.ensures.octet c.if-first.false)
    (hears_first _ _ _ _ _ _ _ _ t (hears_done _ _ _)))

pub returns-in_err-count-clause-reads : goal.returns-in_err-count-clause-reads
unfolding read_length
returns-in_err-count-clause-reads g c =
    let t : (c.in_ok-first.first == 128) ≡ false = let z = c.if-first-2.false in grind (arith, nat_tests) in
    hears_halted c.number.new.self _ _ c.from_residual-in_err-count.result c.in_err-count.field-0.0 _ _ _ _ (search rules)
    (hears_then _ _ c.in_ok-first.first _ _ _ _ _ _ _ c.in_ok-first.ensures.reads
    (hears_on _ _ _ _ _ _ _ _ (is_used _ c.in_ok-first.ensures.octet c.if-first.false) (hears_second _ _ _ _ _ _ _ _ t
    (hears_error _ _ _ _ _ _ _
    (hears_as _ _ _ _ _ _ _
    (ap
    (λ s. read_number s.limits (enclosing s).nearest_end c.args.start c.in_ok-first.first) c.in_ok-first.ensures.stands)
    c.in_err-count.ensures.reads)))))

pub returns-clause-reads : goal.returns-clause-reads
unfolding read_length
returns-clause-reads g c =
    let t : (c.in_ok-first.first == 128) ≡ false = let z = c.if-first-2.false in grind (arith, nat_tests) in
    hears_then _ _ c.in_ok-first.first _ _ _ _ _ _ _ c.in_ok-first.ensures.reads
    (hears_on _ _ _ _ _ _ _ _ (is_used _ c.in_ok-first.ensures.octet c.if-first.false) (hears_second _ _ _ _ _ _ _ _ t
    (hears_then _ _ c.in_ok-count.count _ _ _ _ _ _ _
    (hears_as _ _ _ _ _ _ _
    (ap
    (λ s. read_number s.limits (enclosing s).nearest_end c.args.start c.in_ok-first.first) c.in_ok-first.ensures.stands)
    c.in_ok-count.ensures.reads)
    (hears_done _ _ _))))
