-- What open containers in DER are.
use Rattle.std.specs.Prelude.{◌≡◌, ◌+◌, Bool, List, false, true, ℕ}
use Rattle.tlv_core.specs.Identifier.{Tag}
use Rattle.x690.specs.TypeTerms.{OpenType, SequenceOfType, SetOfType, TypeTerm}
use Rattle.asn_elements.specs.MembersInDer.{AreMembers, AreOrderedMembers}

-- a SET OF open values, or a sequence of them
abbrev pub container_type : Bool → Tag → TypeTerm
container_type true own = SetOfType own 0 OpenType
container_type false own = SequenceOfType own 0 OpenType

-- The octets are the contents of such a container, in DER.
abbrev pub AreOpenMembers : Bool → ℕ → ℕ → List ℕ → Type 0
AreOpenMembers true limit left octets = AreOrderedMembers limit left OpenType octets
AreOpenMembers false limit left octets = AreMembers limit left OpenType octets

-- The same, where there are no more than `left` containers in each other, that of these contents among them.
abbrev pub AreContents : Bool → ℕ → ℕ → List ℕ → Type 0
AreContents is_set limit left octets = (inner : ℕ) × (inner + 1 ≡ left) × AreOpenMembers is_set limit inner octets
