-- An element's text by its header and its contents.
use Rattle.std.specs.Prelude.{List, Some, length, slice_get, true, ℕ, ◌++◌, ◌+◌, ◌≡◌}
use Rattle.tlv_core.specs.Header.{der_header}
use Rattle.tlv_core.specs.Identifier.{Tag}
use Rattle.asn_elements.specs.declared.framing.Stands.{Stands}
use Rattle.asn_elements.specs.declared.framing.Stands.TheVariants as place

-- Octet `i` of a header with contents after it is this one of the header, or stands at this place of the contents.
abbrev pub StandsAt : List ℕ → ℕ → Stands → Type 0
StandsAt header i (place.InHeader octet) = slice_get header i ≡ Some octet
StandsAt header i (place.InContents at) = length header + at ≡ i

-- the text of a constructed element with these contents
abbrev pub framed : Tag → List ℕ → List ℕ
framed tag contents = der_header tag true (length contents) ++ contents
