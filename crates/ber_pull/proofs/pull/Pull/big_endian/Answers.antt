use Rattle.std.proofs.Common.{rules, arith, ◌+◌, ◌-◌, ◌*◌, ap}
use Rattle.x690.specs.ReadHeaders.{header_octet}
use Rattle.ber_pull.specs.Standing.{enclosing}
use Rattle.ber_pull.proofs.Hearing.{hears_as}
use Rattle.ber_pull.proofs.Headers.{big_endian_done, big_endian_error, big_endian_more, clipped_halted}
use Rattle.ber_pull.proofs.pull.Pull.big_endian.Goals as goal

pub returns-in_err-octet-clause-reads : goal.returns-in_err-octet-clause-reads
returns-in_err-octet-clause-reads g c =
    clipped_halted c.args.self.now c.octet.new.self _ c.from_residual.result c.in_err-octet.field-0.0 (search rules)
    (c.loop.invariant.reads.2.rest _ _ _
    (big_endian_error _ _ _ _ (c.args.count - (c.loop.counter + 1)) _ _ _ _ _ _ (omega arith)
    (hears_as _ _ _ _ _ _ _
    (ap (λ s. header_octet s.limits (enclosing s).nearest_end c.args.start) c.loop.invariant.moves)
    c.in_err-octet.ensures.reads)))

pub loop-preserved : goal.loop-preserved
loop-preserved g c = record {
  same_source = search rules;
  fine = search rules;
  moves = search rules;
  forward = search rules;
  below = search rules;
  reads = (
    c.loop.invariant.reads.0 * 256 + c.in_ok-octet.octet,
    c.with_octet-number.ensures.clipped _ c.loop.invariant.reads.1,
    big_endian_more _ _ _ (c.args.count - c.loop.counter) _ _ c.in_ok-octet.octet _ _ _ _ _ _ _
        (omega arith) c.loop.invariant.reads.2
        (hears_as _ _ _ _ _ _ _
        (ap (λ s. header_octet s.limits (enclosing s).nearest_end c.args.start) c.loop.invariant.moves)
        c.in_ok-octet.ensures.reads),
  );
}

pub returns-clause-reads : goal.returns-clause-reads
returns-clause-reads g c = (
  c.loop.invariant.reads.0,
  c.loop.invariant.reads.1,
  c.loop.invariant.reads.2.rest _ _ _ (big_endian_done _ _ _ _ _ _ _ (omega arith)),
)
