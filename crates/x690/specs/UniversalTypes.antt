-- Types of ASN.1 by their universal tags, and an explicit tag (X.690 8.14).
use Rattle.std.specs.Prelude.{ℕ}
use Rattle.x690.specs.Contents.{BitString, Integer, ObjectIdentifier, OctetString}
use Rattle.x690.specs.Layouts.{context_specific, universal}
use Rattle.x690.specs.TypeTerms.{EndOfFields, Fields, LeafType, Required, SequenceOfType, SequenceType, SetOfType, TypeTerm}

infixr 5 ◌⨾◌
-- a field, and those after it
abbrev pub ◌⨾◌ : (Fields → Fields) → Fields → Fields
field ⨾ fields = field fields

abbrev pub sequence : Fields → TypeTerm
sequence fields = SequenceType (universal 16) fields

abbrev pub sequence_of : TypeTerm → TypeTerm
sequence_of type = SequenceOfType (universal 16) 0 type

abbrev pub set_of_some : TypeTerm → TypeTerm
set_of_some type = SetOfType (universal 17) 1 type

abbrev pub explicit : ℕ → TypeTerm → TypeTerm
explicit number type = SequenceType (context_specific number) (Required type ⨾ EndOfFields)

abbrev pub integer : TypeTerm
integer = LeafType (universal 2) Integer

abbrev pub bit_string : TypeTerm
bit_string = LeafType (universal 3) BitString

abbrev pub octet_string : TypeTerm
octet_string = LeafType (universal 4) OctetString

abbrev pub object_identifier : TypeTerm
object_identifier = LeafType (universal 6) ObjectIdentifier
