-- The object identifiers that rules name, by their contents, and tables over them.
use Rattle.std.specs.Prelude.{List, None, Option, Some, [], false, true, ℕ, ◌∷◌}
use Rattle.x690.specs.Lists.{same_octets}

-- 1.2.840.10045.2.1
abbrev pub ec_public_key : List ℕ
ec_public_key = 0x2A ∷ 0x86 ∷ 0x48 ∷ 0xCE ∷ 0x3D ∷ 0x02 ∷ 0x01 ∷ []

-- 1.3.101.110
abbrev pub x25519 : List ℕ
x25519 = 0x2B ∷ 0x65 ∷ 0x6E ∷ []

-- 1.3.101.111
abbrev pub x448 : List ℕ
x448 = 0x2B ∷ 0x65 ∷ 0x6F ∷ []

-- 1.3.101.112
abbrev pub ed25519 : List ℕ
ed25519 = 0x2B ∷ 0x65 ∷ 0x70 ∷ []

-- 1.3.101.113
abbrev pub ed448 : List ℕ
ed448 = 0x2B ∷ 0x65 ∷ 0x71 ∷ []

-- 1.3.132.0.33
abbrev pub secp224r1 : List ℕ
secp224r1 = 0x2B ∷ 0x81 ∷ 0x04 ∷ 0x00 ∷ 0x21 ∷ []

-- 1.2.840.10045.3.1.7
abbrev pub secp256r1 : List ℕ
secp256r1 = 0x2A ∷ 0x86 ∷ 0x48 ∷ 0xCE ∷ 0x3D ∷ 0x03 ∷ 0x01 ∷ 0x07 ∷ []

-- 1.3.132.0.10
abbrev pub secp256k1 : List ℕ
secp256k1 = 0x2B ∷ 0x81 ∷ 0x04 ∷ 0x00 ∷ 0x0A ∷ []

-- 1.3.132.0.34
abbrev pub secp384r1 : List ℕ
secp384r1 = 0x2B ∷ 0x81 ∷ 0x04 ∷ 0x00 ∷ 0x22 ∷ []

-- 1.3.132.0.35
abbrev pub secp521r1 : List ℕ
secp521r1 = 0x2B ∷ 0x81 ∷ 0x04 ∷ 0x00 ∷ 0x23 ∷ []

-- 1.2.840.113549.1.9.14
abbrev pub extension_request : List ℕ
extension_request = 0x2A ∷ 0x86 ∷ 0x48 ∷ 0x86 ∷ 0xF7 ∷ 0x0D ∷ 0x01 ∷ 0x09 ∷ 0x0E ∷ []

-- 1.2.840.113549.1.1.1
abbrev pub rsa_encryption : List ℕ
rsa_encryption = 0x2A ∷ 0x86 ∷ 0x48 ∷ 0x86 ∷ 0xF7 ∷ 0x0D ∷ 0x01 ∷ 0x01 ∷ 0x01 ∷ []

-- 2.5.29.NUMBER (RFC 5280 section 4.2.1)
abbrev pub certificate_extension : ℕ → List ℕ
certificate_extension number = 0x55 ∷ 0x1D ∷ number ∷ []

-- 1.3.6.1.5.5.7.1.NUMBER (RFC 5280 section 4.2.2)
abbrev pub private_extension : ℕ → List ℕ
private_extension number = 0x2B ∷ 0x06 ∷ 0x01 ∷ 0x05 ∷ 0x05 ∷ 0x07 ∷ 0x01 ∷ number ∷ []

-- 1.3.6.1.4.1.311.NUMBER.NUMBER, of Microsoft
abbrev pub enrolment : ℕ → ℕ → List ℕ
enrolment first second = 0x2B ∷ 0x06 ∷ 0x01 ∷ 0x04 ∷ 0x01 ∷ 0x82 ∷ 0x37 ∷ first ∷ second ∷ []

abbrev pub rfc8410_algorithms : List (List ℕ)
rfc8410_algorithms = x25519 ∷ x448 ∷ ed25519 ∷ ed448 ∷ []

-- what a table has under an identifier
abbrev pub entry_under : {Entry : Type 0} → List (List ℕ × Entry) → List ℕ → Option Entry
entry_under [] identifier = None
entry_under (row ∷ rows) identifier =
    elim (same_octets identifier row.0) [ true ↦ Some row.1 | false ↦ entry_under rows identifier ]

-- private and public keys (RFC 7748 section 5, RFC 8032 sections 5.1.5, 5.2.5)
abbrev pub rfc8410_lengths : List (List ℕ × ℕ)
rfc8410_lengths = (x25519, 32) ∷ (x448, 56) ∷ (ed25519, 32) ∷ (ed448, 57) ∷ []

-- private keys: octets of the order of the curve's base point (RFC 5915 section 3, SEC 2)
abbrev pub curve_lengths : List (List ℕ × ℕ)
curve_lengths = (secp224r1, 28) ∷ (secp256r1, 32) ∷ (secp256k1, 32) ∷ (secp384r1, 48) ∷ (secp521r1, 66) ∷ []
