use Rattle.std.proofs.Common.{◌==◌}
use Rattle.commands.proofs.Buffers.{passed, passed_as_told}
use Rattle.commands.proofs.from_buffer.FromBufferSource.pass.Goals as goal

pub returns-clause-reader : goal.returns-clause-reader
returns-clause-reader g c =
    let kept = c.consume.ensures in
    rw kept.capacity (rw kept.buffer (rw kept.inner (passed (c.args.self.now.inner.buf.buf.len == 0) _ _ c.args.count)))

pub returns-clause-octets : goal.returns-clause-octets
returns-clause-octets g c = passed_as_told c.args.self.now.telling _ _ _ (returns-clause-reader g c)
