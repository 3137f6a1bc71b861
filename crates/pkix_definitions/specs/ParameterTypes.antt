-- The types of public keys of RSA and of the parameters of algorithms that have some of their own: RFC 8017, RFC 8018,
-- RFC 7914. A default that is no leaf is read as a field that may be absent.
use Rattle.std.specs.Prelude.{[], ◌∷◌}
use Rattle.x690.specs.TypeTerms.{EndOfFields, OpenType, Optional, Required, TypeTerm, choice_of}
use Rattle.x690.specs.UniversalTypes.{explicit, integer, object_identifier, octet_string, sequence, ◌⨾◌}

-- RFC 8017 A.1.1: modulus, publicExponent
abbrev pub RSAPublicKey : TypeTerm
RSAPublicKey = sequence (Required integer ⨾ Required integer ⨾ EndOfFields)

-- RFC 5280 section 4.1.1.2, of algorithms in parameters; without a rule
abbrev pub inner_algorithm : TypeTerm
inner_algorithm = sequence (Required object_identifier ⨾ Optional OpenType ⨾ EndOfFields)

-- RFC 8017 A.2.3: hashAlgorithm, maskGenAlgorithm, saltLength, trailerField
abbrev pub RSASSA-PSS-params : TypeTerm
RSASSA-PSS-params =
    sequence (Optional (explicit 0 inner_algorithm)
    ⨾ Optional (explicit 1 inner_algorithm)
    ⨾ Optional (explicit 2 integer)
    ⨾ Optional (explicit 3 integer)
    ⨾ EndOfFields)

-- RFC 8018 A.4: keyDerivationFunc, encryptionScheme
abbrev pub PBES2-params : TypeTerm
PBES2-params = sequence (Required inner_algorithm ⨾ Required inner_algorithm ⨾ EndOfFields)

-- RFC 8018 A.2: salt, iterationCount, keyLength, prf
abbrev pub PBKDF2-params : TypeTerm
PBKDF2-params =
    sequence (Required (choice_of octet_string (inner_algorithm ∷ []))
    ⨾ Required integer
    ⨾ Optional integer
    ⨾ Optional inner_algorithm
    ⨾ EndOfFields)

-- RFC 7914 section 7: salt, costParameter, blockSize, parallelizationParameter, keyLength
abbrev pub scrypt-params : TypeTerm
scrypt-params =
    sequence (Required octet_string
    ⨾ Required integer
    ⨾ Required integer
    ⨾ Required integer
    ⨾ Optional integer
    ⨾ EndOfFields)
