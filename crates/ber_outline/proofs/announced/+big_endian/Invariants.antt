use Rattle.std.proofs.Common.{length}
use Rattle.ber_outline.proofs.announced.+big_endian.Given as goal

abbrev pub decreases-big_endian : goal.decreases-big_endian
decreases-big_endian l = length l.octets.now
