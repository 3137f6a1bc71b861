use Rattle.std.proofs.Common.{length, ◌/◌, ap, arith}
use Rattle.tlv_core.specs.Length.{number_octets}
use Rattle.std.proofs.lemmas.List.{length-append}
use Rattle.tlv_core.proofs.Headers.{number_pushed, number_room, number_empty}
use Rattle.tlv_core.proofs.header.Header.+push_number.Goals as goal

pub push_number-requires : goal.push_number-requires
push_number-requires t c = (omega arith, omega (arith, number_room c.args.n c.if-n-gt0.true))

pub push-requires : goal.push-requires
push-requires t c =
    omega (
      arith,
      number_room c.args.n c.if-n-gt0.true,
      ap length c.push_number.ensures,
      length-append c.args.self.now (number_octets (c.args.n / 256) (c.args.n / 256)),
    )

pub returns-then-n-gt0 : goal.returns-then-n-gt0
returns-then-n-gt0 t c = number_pushed _ _ _ c.args.n c.if-n-gt0.true c.push_number.ensures c.push.ensures

pub returns-else-n-gt0 : goal.returns-else-n-gt0
returns-else-n-gt0 t c = number_empty _ c.args.n (omega arith)
