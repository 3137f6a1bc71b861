use Rattle.std.proofs.Common.{rules, ap, arith}
use Rattle.x690.specs.ReadHeaders.{next_octets}
use Rattle.ber_pull.specs.Standing.{failure}
use Rattle.ber_pull.proofs.Hearing.{hears_halted, hears_memory}
use Rattle.ber_pull.proofs.Pieces.{contents_done, contents_error}
use Rattle.ber_pull.proofs.pull.Pull.contents.Goals as goal

pub returns-then-is_err-clause-reads : goal.returns-then-is_err-clause-reads
returns-then-is_err-clause-reads g c =
    let stands = c.halt_without_memory.ensures.stands in
    hears_memory (next_octets c.args.count) (failure c.halt_without_memory.new.self.state) _ _ _ _
    (ap failure stands) (ap (λ s. s.taken) stands) (ap g.R.Source.remaining c.halt_without_memory.ensures.same)

pub returns-in_err-piece-clause-reads : goal.returns-in_err-piece-clause-reads
returns-in_err-piece-clause-reads g c =
    hears_halted c.piece.new.self _ _ c.from_residual.result c.in_err-piece.field-0.0 _ _ _ _ (search rules)
    (contents_error _ c.args.count _ _ _ (failure c.piece.new.self.state) c.loop-octets.octets.items _ _ _
    c.loop-octets.invariant.came c.loop-octets.invariant.count
    (omega arith) c.in_err-piece.ensures.adds)

pub returns-clause-reads : goal.returns-clause-reads
returns-clause-reads g c =
    contents_done c.args.count _ _ c.loop-octets.octets.items _ _ c.loop-octets.invariant.came
    c.loop-octets.invariant.count
    (omega arith)
