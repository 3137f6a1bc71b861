-- What clauses see of an ECPrivateKey, by the names of its fields (RFC 5915 section 3).
use Rattle.std.specs.Prelude.{List, Option, ℕ}
use Rattle.std.specs.Option.{option_map}
use Rattle.asn_elements.specs.declared.bits.Bits.{Bits}
use Rattle.asn_elements.specs.declared.octets.Octets.{Octets}
use Rattle.private_keys.specs.declared.ec_private_key.EcPrivateKey.{EcPrivateKey}

-- privateKey
abbrev pub ec_key_of : EcPrivateKey → Octets
ec_key_of it = it.0.value.fields.0.0.1.0

-- the contents of the identifier of the curve that parameters name, where they are there
abbrev pub ec_curve_of : EcPrivateKey → Option (List ℕ)
ec_curve_of it = option_map (λ curve. curve.inner) it.0.value.fields.0.1.0.0

-- publicKey, where it is there
abbrev pub ec_public_key_of : EcPrivateKey → Option Bits
ec_public_key_of it = option_map (λ key. key.inner) it.0.value.fields.0.1.1.0
