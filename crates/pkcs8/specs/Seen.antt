-- The keys in a OneAsymmetricKey, as its readers show them.
use Rattle.std.specs.Prelude.{List, None, Option, Some, [], false, true, ℕ, ◌∷◌, ◌≡◌}
use Rattle.asn_elements.specs.Implicits.{value_under}
use Rattle.asn_elements.specs.declared.bits.Bits.{Bits}
use Rattle.asn_elements.specs.declared.implicit.Implicit.{Implicit}
use Rattle.asn_elements.specs.declared.octets.Octets.{Octets}
use Rattle.asn_fields.specs.declared.defined_by.DefinedBy.{DefinedBy}
use Rattle.asn_fields.specs.declared.dependent.Independent.{Independent}
use Rattle.asn_fields.specs.declared.either.Either.TheVariants.{First, Second}
use Rattle.asn_fields.specs.declared.either.Either.{Either}
use Rattle.asn_fields.specs.declared.refused.Refused.{Refused}
use Rattle.asn_fields.specs.declared.ruled_behind.RuledBehind.{RuledBehind}
use Rattle.pkix_definitions.specs.Identifiers.{ec_public_key, rfc8410_algorithms, rsa_encryption}
use Rattle.x690.specs.Lists.{one_of}
use Rattle.pkcs8.specs.declared.private_key.ContainedKey.{ContainedKey}
use Rattle.pkcs8.specs.declared.private_key.PrivateKey.{PrivateKey}
use Rattle.pkcs8.specs.declared.private_key.PrivateKey.TheVariants.{Carried, Curve, Ec, Rsa}
use Rattle.pkcs8.specs.declared.key_bits.KeyBits.{KeyBits}
use Rattle.pkcs8.specs.declared.public_key.PublicKeyUnderVersion0.{PublicKeyUnderVersion0}
use Rattle.private_keys.specs.declared.curve_key.CurveKey.{CurveKey}
use Rattle.private_keys.specs.declared.ec_private_key.EcPrivateKey.{EcPrivateKey}
use Rattle.private_keys.specs.RsaParts.{RsaPrivateKey}

-- one of the four
abbrev pub AnyKey : Type 0
AnyKey = Either EcPrivateKey (Either CurveKey (Either RsaPrivateKey Octets))

-- what is shown
abbrev pub key_seen : PrivateKey → AnyKey
key_seen (Ec key) = First key.now
key_seen (Curve key) = Second (First key.now)
key_seen (Rsa key) = Second (Second (First key.now))
key_seen (Carried octets) = Second (Second (Second octets.now))

-- what is there
abbrev pub key_in : ContainedKey → AnyKey
key_in contained =
    elim contained.0.value [
      | First ec ↦ First ec.string.inner
      | Second others ↦ elim others.value [
        | First curve ↦ Second (First curve.string.inner)
        | Second rest ↦ elim rest.value [
          | First rsa ↦ Second (Second (First rsa.0.inner.0.value))
          | Second octets ↦ Second (Second (Second octets.0))
        ]
      ]
    ]

-- The key goes with the algorithm: id-ecPublicKey, one of RFC 8410, rsaEncryption, or none of these.
abbrev pub GoesWith : List ℕ → AnyKey → Type 0
GoesWith algorithm (First ec) = one_of algorithm (ec_public_key ∷ []) ≡ true
GoesWith algorithm (Second (First curve)) = one_of algorithm rfc8410_algorithms ≡ true
GoesWith algorithm (Second (Second (First rsa))) = one_of algorithm (rsa_encryption ∷ []) ≡ true
GoesWith algorithm (Second (Second (Second octets))) =
    (one_of algorithm (ec_public_key ∷ []) ≡ false)
    × (one_of algorithm rfc8410_algorithms ≡ false)
    × (one_of algorithm (rsa_encryption ∷ []) ≡ false)

-- publicKey, as it is kept
abbrev pub PublicKey : Type 0
PublicKey =
    DefinedBy (Independent (Refused PublicKeyUnderVersion0)) (RuledBehind (Implicit 1 Bits) KeyBits)
    PublicKeyUnderVersion0

-- its bits, none of what is refused
abbrev pub bits_in : PublicKey → Option Bits
bits_in key = elim key.value [ First refused ↦ None | Second ruled ↦ Some (value_under ruled.value) ]

-- where there may be one
abbrev pub bits_of : Option PublicKey → Option Bits
bits_of None = None
bits_of (Some key) = bits_in key
