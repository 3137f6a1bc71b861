-- The classes of tags.
use Rattle.std.proofs.Common.{ℕ, ◌≡◌, ap}
use Rattle.tlv_core.specs.Classes.{class_bits, class_of}
use Rattle.tlv_core.specs.declared.tag.Class.{Class}
use Rattle.tlv_core.specs.declared.tag.Class.TheVariants.{Application, Context, Private, Universal}

-- a class is that of its bits
pub class_again : (class : Class) (bits : ℕ) → class_bits class ≡ bits → class ≡ class_of bits
class_again Universal bits e = ap class_of e
class_again Application bits e = ap class_of e
class_again Context bits e = ap class_of e
class_again Private bits e = ap class_of e
