-- The DER encoding of a document that is in memory.
use Rattle.std.specs.Prelude.{List, Some, [], length, ℕ}
use Rattle.tlv_core.specs.Limits.{Limits}
use Rattle.x690.specs.TypeTerms.{TypeTerm}
use Rattle.x690.specs.Values.{Value}
use Rattle.asn_documents.specs.Normalised.{NormalisedAs}
use Rattle.pk_documents.specs.declared.encoding.Encoding.{Encoding}
use Rattle.pk_documents.specs.declared.encoding.Encoding.TheVariants.{Given, Made}

-- All of the octets spell one value, and this is its DER text; and so on, as `NormalisedAs` says of a source that ends
-- there and a target that was empty.
abbrev pub IsEncoding : Limits → TypeTerm → List ℕ → List ℕ → Type 0
IsEncoding limits type given encoding =
    (value : Value)
    × NormalisedAs limits type value (Some given) (Some []) (Some []) (Some encoding) (length given) (length encoding)

abbrev pub octets_of : Encoding → List ℕ
octets_of (Given octets) = octets.now
octets_of (Made octets) = octets.items
