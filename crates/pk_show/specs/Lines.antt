-- Lines, and what they say.
use Rattle.std.specs.Prelude.{List, None, Option, Some, codes, decimal, ℕ, ◌++◌}
use Rattle.x690.specs.DerTexts.{der}
use Rattle.asn_elements.specs.Leaves.{bit_string_of}
use Rattle.asn_elements.specs.declared.bits.Bits.{Bits}
use Rattle.asn_open_values.specs.OpenValues.{open_value_of}
use Rattle.asn_open_values.specs.declared.any.Any.{Any}
use Rattle.pk_show.specs.Texts.{bits_text, hex_text, line_feed}

-- a label, what is said, and a line feed
unfoldable pub line : List ℕ → List ℕ → List ℕ
line label said = label ++ said ++ line_feed

-- a label, a number of octets
unfoldable pub octets_line : List ℕ → ℕ → List ℕ
octets_line label count = label ++ decimal count ++ codes " octets" ++ line_feed

abbrev pub bits_said : Bits → List ℕ
bits_said bits = bits_text (bit_string_of bits)

-- an open value: the octets of its DER text
abbrev pub any_text : Any → List ℕ
any_text value = hex_text (der (open_value_of value))

-- what may be absent
abbrev pub optional : {A : Type 0} → (A → List ℕ) → Option A → List ℕ
optional said None = codes "absent"
optional said (Some part) = said part

-- the parameters of an algorithm
abbrev pub parameters_text : Option Any → List ℕ
parameters_text None = codes "none"
parameters_text (Some parameters) = any_text parameters
