-- Open values by their DER texts.
use Rattle.std.specs.Prelude.{List, None, Option, Some, [], false, length, true, ℕ}
use Rattle.x690.specs.Layouts.{same_tag, universal}
use Rattle.x690.specs.ReadTypes.{read_document}
use Rattle.x690.specs.Reading.{Halted, Outcome, Took}
use Rattle.x690.specs.TypeTerms.{OpenType}
use Rattle.x690.specs.Values.{Leaf, Sequence, SetOf, Value}

-- the value that a reading gave
abbrev pub value_given : Outcome Value → Value
value_given (Took value taken rest) = value
value_given (Halted found) = Leaf (universal 5) []

-- What the text of an open value says: what the plain reading gives for it. It is nested no deeper than it has octets.
unfoldable pub open_value : List ℕ → Value
open_value text = value_given (read_document (record { depth = length text; octets = length text }) OpenType text)

-- the contents of an OBJECT IDENTIFIER, none of any other value
abbrev pub identifier_in : Value → Option (List ℕ)
identifier_in (Leaf tag contents) = elim (same_tag (universal 6) tag) [ true ↦ Some contents | false ↦ None ]
identifier_in (Sequence tag values) = None
identifier_in (SetOf tag values) = None
