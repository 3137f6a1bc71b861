use Rattle.std.proofs.Common.{length, ◌/◌, ap, arith}
use Rattle.tlv_core.specs.Identifier.{leading_base128}
use Rattle.std.proofs.lemmas.List.{length-append}
use Rattle.tlv_core.proofs.Headers.{leading_pushed, leading_room, leading_empty}
use Rattle.tlv_core.proofs.header.Header.+push_leading_base128.Goals as goal

pub push_leading_base128-requires : goal.push_leading_base128-requires
push_leading_base128-requires t c = (omega arith, (omega arith, omega (arith, leading_room c.args.n c.if-n-gt0.true)))

pub push-requires : goal.push-requires
push-requires t c =
    omega (
      arith,
      leading_room c.args.n c.if-n-gt0.true,
      ap length c.push_leading_base128.ensures,
      length-append c.args.self.now (leading_base128 (c.args.n / 128) (c.args.n / 128)),
    )

pub returns-then-n-gt0 : goal.returns-then-n-gt0
returns-then-n-gt0 t c = leading_pushed _ _ _ c.args.n c.if-n-gt0.true c.push_leading_base128.ensures c.push.ensures

pub returns-else-n-gt0 : goal.returns-else-n-gt0
returns-else-n-gt0 t c = leading_empty _ c.args.n (omega arith)
