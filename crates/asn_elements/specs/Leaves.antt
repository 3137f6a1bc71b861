-- What clauses see of leaves.
use Rattle.std.specs.Prelude.{Bool as Truth, List, ℕ}
use Rattle.tlv_core.specs.Identifier.{Tag}
use Rattle.asn_elements.specs.declared.bits.Bits.{Bits}
use Rattle.asn_elements.specs.declared.boolean.Bool.{Bool}
use Rattle.asn_elements.specs.declared.integer.Int.{Int}
use Rattle.asn_elements.specs.declared.octets.Octets.{Octets}
use Rattle.asn_elements.specs.declared.text.Text.{Text}

-- whether it is TRUE
abbrev pub truth : Bool → Truth
truth b = b.value

-- the contents of an INTEGER
abbrev pub integer_of : Int → List ℕ
integer_of n = n.contents.items

-- the octets of an OCTET STRING
abbrev pub octets_of : Octets → List ℕ
octets_of o = o.octets.items

-- the tag of a character string or time
abbrev pub text_tag : Text → Tag
text_tag text = text.tag

-- its octets
abbrev pub text_octets : Text → List ℕ
text_octets text = text.octets.items

-- the contents of a BIT STRING: the number of unused bits, and the octets
abbrev pub bit_string_of : Bits → List ℕ
bit_string_of bits = bits.contents.items
