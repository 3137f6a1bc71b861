use Rattle.std.proofs.Common.{rules, arith, ◌+◌, ◌-◌, ◌*◌, ◌<◌, ◌≤◌, sym, ap, subst}
use Rattle.tlv_core.specs.declared.reason.Reason.TheVariants.{BadTag}
use Rattle.x690.specs.Points.{fault}
use Rattle.x690.specs.ReadHeaders.{header_octet, read_high_number}
use Rattle.x690.specs.Reads.{Said}
use Rattle.ber_pull.specs.Hears.{Hears}
use Rattle.ber_pull.specs.Standing.{enclosing, failure}
use Rattle.ber_pull.proofs.Hearing.{hears_as, hears_halted, hears_stop}
use Rattle.ber_pull.proofs.Headers.{digits_below, digits_more, high_error, no_first_zero, high_last, high_long, high_more, high_octet, high_small, high_zero}
use Rattle.ber_pull.proofs.pull.Pull.high_tag_number.Goals as goal

pub returns-in_err-octet-clause-reads : goal.returns-in_err-octet-clause-reads
returns-in_err-octet-clause-reads g c =
    hears_halted c.octet.new.self _ _ c.from_residual.result c.in_err-octet.field-0.0 _ _ _ _ (search rules)
    (c.loop.invariant.reads.rest _ _ _ (high_error _ _ _ _ (4 - (c.loop.counter + 1)) _ _ _ _ _ _ (omega arith)
    (hears_as _ _ _ _ _ _ _
    (ap (λ s. header_octet s.limits (enclosing s).nearest_end c.args.start) c.loop.invariant.moves)
    c.in_err-octet.ensures.reads)))

pub returns-then-octet-clause-reads : goal.returns-then-octet-clause-reads
returns-then-octet-clause-reads g c =
    hears_stop _ (fault c.args.start BadTag) _ _ _ _ _ _ _ (ap failure c.halt.ensures.stands) (ap (λ s. s.taken) c.halt.ensures.stands)
    (ap g.R.Source.remaining c.halt.ensures.same)
    (high_zero _ _ _ _ _ _ _ _ _ _
    (high_octet _ _ _ (4 - c.loop.counter) (4 - (c.loop.counter + 1)) c.loop.number c.in_ok-octet.octet _ _ _ _ _ _
    (omega arith) c.loop.invariant.reads
    (hears_as _ _ _ _ _ _ _
    (ap (λ s. header_octet s.limits (enclosing s).nearest_end c.args.start) c.loop.invariant.moves)
    c.in_ok-octet.ensures.reads)) c.if-number-eq0.true c.if-octet.true)

pub overflow_mul-number : goal.overflow_mul-number
overflow_mul-number g c =
    let b : c.loop.number < 2097152 = digits_below _ _ (omega arith) c.loop.invariant.below in search rules

pub overflow_add-number : goal.overflow_add-number
overflow_add-number g c =
    let b : c.loop.number < 2097152 = digits_below _ _ (omega arith) c.loop.invariant.below in search rules

pub overflow_mul-number-in-loop : goal.overflow_mul-number-in-loop
overflow_mul-number-in-loop g c =
    let b : c.loop.number < 2097152 = digits_below _ _ (omega arith) c.loop.invariant.below in search rules

pub overflow_add-number-in-loop : goal.overflow_add-number-in-loop
overflow_add-number-in-loop g c =
    let b : c.loop.number < 2097152 = digits_below _ _ (omega arith) c.loop.invariant.below in search rules

pub returns-then-number-lt31-clause-reads : goal.returns-then-number-lt31-clause-reads
returns-then-number-lt31-clause-reads g c =
    let small : c.loop.number * 128 + c.in_ok-octet.octet < 31 = let z = c.if-number-lt31.true in omega arith in
    hears_stop _ (fault c.args.start BadTag) _ _ _ _ _ _ _ (ap failure c.halt-then-number-lt31.ensures.stands)
    (ap (λ s. s.taken) c.halt-then-number-lt31.ensures.stands)
    (ap g.R.Source.remaining c.halt-then-number-lt31.ensures.same)
    (high_small _ _ _ _ _ _ _ _ _ _
    (high_octet _ _ _ (4 - c.loop.counter) (4 - (c.loop.counter + 1)) c.loop.number c.in_ok-octet.octet _ _ _ _ _ _
    (omega arith) c.loop.invariant.reads
    (hears_as _ _ _ _ _ _ _
    (ap (λ s. header_octet s.limits (enclosing s).nearest_end c.args.start) c.loop.invariant.moves)
    c.in_ok-octet.ensures.reads)) c.if-octet-lt128.true small)

pub returns-then-octet-lt128-clause-reads : goal.returns-then-octet-lt128-clause-reads
returns-then-octet-lt128-clause-reads g c =
    let large : 31 ≤ c.loop.number * 128 + c.in_ok-octet.octet = let z = c.if-number-lt31.false in omega arith in
    subst (λ n.
    Hears
    (read_high_number c.args.self.now.state.limits (enclosing c.args.self.now.state).nearest_end c.args.start 4 0)
    c.args.self.now.state.taken
    (g.R.Source.remaining c.args.self.now.src.now) (Said (c.loop.number * 128 + n)) c.octet.new.self.state.taken
    (g.R.Source.remaining c.octet.new.self.src.now))
    (sym c.from.ensures)
    (high_last _ _ _ _ _ _ _ _ _ _
    (high_octet _ _ _ (4 - c.loop.counter) (4 - (c.loop.counter + 1)) c.loop.number c.in_ok-octet.octet _ _ _ _ _ _
    (omega arith) c.loop.invariant.reads
    (hears_as _ _ _ _ _ _ _
    (ap (λ s. header_octet s.limits (enclosing s).nearest_end c.args.start) c.loop.invariant.moves)
    c.in_ok-octet.ensures.reads)) c.if-octet-lt128.true large)

pub returns-then-octet-lt128-clause-below : goal.returns-then-octet-lt128-clause-below
returns-then-octet-lt128-clause-below g c =
    let b : c.loop.number < 2097152 = digits_below _ _ (omega arith) c.loop.invariant.below in
    let z = c.if-number-lt31.false in (omega arith, omega arith)

pub loop-preserved : goal.loop-preserved
loop-preserved g c = record {
  same_source = search rules;
  fine = search rules;
  moves = search rules;
  forward = search rules;
  below = digits_more _ _ _ c.loop.invariant.below (omega arith);
  reads =
      high_more _ _ _ _ _ c.in_ok-octet.octet _ _ _ _ _
      (high_octet _ _ _ (4 - c.loop.counter) (4 - (c.loop.counter + 1)) c.loop.number c.in_ok-octet.octet _ _ _ _ _ _
      (omega arith) c.loop.invariant.reads
      (hears_as _ _ _ _ _ _ _
      (ap (λ s. header_octet s.limits (enclosing s).nearest_end c.args.start) c.loop.invariant.moves)
      c.in_ok-octet.ensures.reads))
      c.in_ok-octet.ensures.octet c.if-octet-lt128.false
      (no_first_zero _ _ c.else-number-eq0.either) c.from-in-loop.ensures;
}

pub returns-clause-reads : goal.returns-clause-reads
returns-clause-reads g c =
    hears_stop _ (fault c.args.start BadTag) _ _ _ _ _ _ _ (ap failure c.halt-2.ensures.stands)
    (ap (λ s. s.taken) c.halt-2.ensures.stands) (ap g.R.Source.remaining c.halt-2.ensures.same)
    (high_long _ _ _ _ _ _ _ _ _ (omega arith) c.loop.invariant.reads)
