use Rattle.std.proofs.Common.{◌/◌, sym, arith}
use Rattle.tlv_core.proofs.Headers.{number_room, no_number, eight_octets}
use Rattle.tlv_core.proofs.header.+number_size.Goals as goal

pub overflow_add-result : goal.overflow_add-result
overflow_add-result t c = omega (arith, eight_octets (c.args.n / 256) (omega arith), c.number_size.ensures)

pub returns-then-n-eq0 : goal.returns-then-n-eq0
returns-then-n-eq0 t c = sym (no_number c.args.n c.if-n-eq0.true)

pub returns-else-n-eq0 : goal.returns-else-n-eq0
returns-else-n-eq0 t c = omega (arith, number_room c.args.n (omega arith), c.number_size.ensures)
