-- Classes as bits 8 and 7 of an identifier octet (X.690 8.1.2.2, table 1).
use Rattle.std.specs.Prelude.{ℕ, zero, suc, refl}
use Rattle.std.specs.Coded.{Coded, code_by, coded×, coded_ℕ}
use Rattle.tlv_core.specs.Identifier.{Tag}
use Rattle.tlv_core.specs.declared.tag.Class.{Class}
use Rattle.tlv_core.specs.declared.tag.Class.TheVariants.{Universal, Application, Context, Private}

abbrev pub class_bits : Class → ℕ
class_bits Universal = 0
class_bits Application = 1
class_bits Context = 2
class_bits Private = 3

abbrev pub class_of : ℕ → Class
class_of zero = Universal
class_of (suc zero) = Application
class_of (suc (suc zero)) = Context
class_of (suc (suc (suc bits))) = Private

abbrev pub tag_code : Coded Tag
tag_code =
    code_by (ℕ × ℕ) (coded× coded_ℕ coded_ℕ) (λ tag. (tag.class, tag.number))
    (λ pair. record { class = pair.0; number = pair.1 }) (λ _. refl)
