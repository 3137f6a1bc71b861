-- What is due where the reason of a fault alone says it.
use Rattle.std.specs.Prelude.{List, None, Option, Some, [], codes, cond, ℕ}
use Rattle.std.specs.Str.{bytes_eq}
use Rattle.tlv_core.specs.declared.fault.Fault.{Fault}
use Rattle.tlv_core.specs.declared.reason.Reason.{Reason}
use Rattle.tlv_core.specs.declared.reason.Reason.TheVariants.{BadBits, BadBoolean, BadInteger, BadLength, BadNull, BadOid, BadText, EmptySet, KeyLength, TooDeep, TooLong, Version, WrongForm}

-- the versions of a kind's documents: RFC 5915 section 3, RFC 2986 section 4.1, RFC 5958 section 2
abbrev pub version_due : List ℕ → List ℕ
version_due kind =
    cond (bytes_eq kind (codes "ec")) (codes "version 1")
    (cond (bytes_eq kind (codes "request")) (codes "version 0") (codes "version 0 or 1"))

-- those of the keys inside privateKey: RFC 5915 section 3, RFC 8017 A.1.2
abbrev pub inside_version : List ℕ
inside_version = codes "version 1 of an ECPrivateKey, 0 or 1 of an RSAPrivateKey"

-- What X.690 asks for (8.1.2.5, 8.1.3, 8.3, 8.2, 8.8, 8.6.2, 8.19), and pkder's limits; of a version what is shown of
-- that; nothing where it is a matter of type or of another element.
abbrev pub words_due : Reason → List ℕ → List ℕ
words_due TooLong version = codes "no more octets than --octets allows"
words_due TooDeep version = codes "elements nested no deeper than --depth allows"
words_due WrongForm version = codes "constructed where it is a SEQUENCE, SET or explicit tag, else primitive"
words_due BadLength version = codes "a length that doesn't begin with FF, and isn't indefinite where primitive"
words_due BadInteger version = codes "at least one octet, and no needless 00 or FF in front"
words_due BadBoolean version = codes "one octet"
words_due BadNull version = codes "no octets"
words_due BadBits version = codes "a first octet of 0 to 7 that counts the unused bits of the last one"
words_due BadOid version = codes "arcs that are whole, below 2^128 and in the fewest octets"
words_due BadText version = codes "UTF-8"
words_due EmptySet version = codes "a SET OF with at least one member"
words_due Version version = version
words_due KeyLength version = codes "as many octets as the curve or the algorithm asks for"
words_due why version = []

-- inside privateKey by the reason inside
abbrev pub due_at : List ℕ → Reason → Option (ℕ × Reason) → List ℕ
due_at kind why None = words_due why (version_due kind)
due_at kind why (Some inside) = words_due inside.1 inside_version

abbrev pub reason_due : List ℕ → Fault → List ℕ
reason_due kind fault = due_at kind fault.why fault.inside
