use Rattle.std.proofs.Common.{arith, ◌^◌}
use Rattle.ber_pull.proofs.Joining.{bits_fit}
use Rattle.ber_pull.proofs.bits.without_last_bits.Goals as goal

pub returns : goal.returns
returns c = bits_fit c.args.octet (2 ^ c.args.count) (omega arith)
