use Rattle.std.proofs.Common.{rules, arith, ◌≡◌, inl, true, false, nat_lt, ap}
use Rattle.std.proofs.lemmas.Bool.Decides.{nat_tests}
use Rattle.x690.specs.ReadHeaders.{fit_contents, read_number}
use Rattle.ber_pull.specs.Standing.{enclosing}
use Rattle.ber_pull.proofs.Hearing.{hears_as, hears_done, hears_halted, hears_error, hears_first, hears_second, hears_then}
use Rattle.ber_pull.proofs.pull.Pull.number.Goals as goal

pub returns-then-first-lt128-clause-reads : goal.returns-then-first-lt128-clause-reads
unfolding read_number
returns-then-first-lt128-clause-reads g c =
    let t : nat_lt c.args.first 128 ≡ true = let z = c.if-first-lt128.true in grind (arith, nat_tests) in
    hears_then _ _ c.args.first _ _ _ _ _ _ _ (hears_first _ _ _ _ _ _ _ _ t (hears_done _ _ _))
    (c.fit.ensures.reads c.args.first (inl c.from.ensures))

pub returns-in_err-number-clause-reads : goal.returns-in_err-number-clause-reads
unfolding read_number
returns-in_err-number-clause-reads g c =
    let t : nat_lt c.args.first 128 ≡ false = let z = c.if-first-lt128.false in grind (arith, nat_tests) in
    hears_halted c.big_endian.new.self _ _ c.from_residual.result c.in_err-number.field-0.0 _ _ _ _ (search rules)
    (hears_error _ _ _ _ _ _ _ (hears_second _ _ _ _ _ _ _ _ t c.in_err-number.ensures.reads))

pub returns-clause-reads : goal.returns-clause-reads
unfolding read_number
returns-clause-reads g c =
    let t : nat_lt c.args.first 128 ≡ false = let z = c.if-first-lt128.false in grind (arith, nat_tests) in
    let n = c.in_ok-number.ensures.reads.0 in
    hears_then _ _ n _ _ _ _ _ _ _ (hears_second _ _ _ _ _ _ _ _ t c.in_ok-number.ensures.reads.2)
    (hears_as _ _ _ _ _ _ _
    (ap (λ s. fit_contents s.limits (enclosing s).nearest_end c.args.start n) c.in_ok-number.ensures.stands)
    (c.fit-2.ensures.reads n c.in_ok-number.ensures.reads.1))
