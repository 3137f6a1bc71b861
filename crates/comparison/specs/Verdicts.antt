-- What two private keys are to each other.
use Rattle.std.specs.Prelude.{Bool, List, None, Option, Some, [], codes, cond, length, ℕ, ◌&&◌, ◌++◌, ◌==◌, ◌||◌}
use Rattle.std.specs.Str.{bytes_eq}
use Rattle.pkix_shapes.specs.Identifiers.{Row, usual}
use Rattle.pkix_definitions.specs.Identifiers.{ec_public_key}
use Rattle.comparison.specs.Parts.{Carried, Parts, Rsa, Scalar}
use Rattle.comparison.specs.declared.verdict.KeySameness.{KeySameness}
use Rattle.comparison.specs.declared.verdict.KeySameness.TheVariants.{Another, NotCompared, Same}

abbrev pub by_test : Bool → KeySameness
by_test same = cond same Same Another

-- a key of id-ecPublicKey that names no curve
abbrev pub is_unnamed : List ℕ → List ℕ → Bool
is_unnamed algorithm curve = bytes_eq algorithm ec_public_key && (length curve == 0)

-- A key of EC or RFC 8410 and another one are one where algorithm, curve and private octets are equal.
abbrev pub scalar_verdict : List ℕ → List ℕ → List ℕ → Parts → KeySameness
scalar_verdict algorithm curve key (Carried other) = NotCompared
scalar_verdict algorithm curve key (Rsa modulus exponent) = Another
scalar_verdict algorithm curve key (Scalar named on octets) =
    cond (is_unnamed algorithm curve || is_unnamed named on) NotCompared
    (by_test (bytes_eq algorithm named && bytes_eq curve on && bytes_eq key octets))

-- An RSA key and another one are one where modulus and publicExponent are equal.
abbrev pub rsa_verdict : List ℕ → List ℕ → Parts → KeySameness
rsa_verdict modulus exponent (Carried other) = NotCompared
rsa_verdict modulus exponent (Scalar algorithm curve key) = Another
rsa_verdict modulus exponent (Rsa number power) = by_test (bytes_eq modulus number && bytes_eq exponent power)

abbrev pub verdict_of_parts : Parts → Parts → KeySameness
verdict_of_parts (Carried algorithm) other = NotCompared
verdict_of_parts (Scalar algorithm curve key) other = scalar_verdict algorithm curve key other
verdict_of_parts (Rsa modulus exponent) other = rsa_verdict modulus exponent other

-- by their parts, where each has some
abbrev pub verdict_of : Option Parts → Option Parts → KeySameness
verdict_of None other = NotCompared
verdict_of (Some parts) None = NotCompared
verdict_of (Some parts) (Some other) = verdict_of_parts parts other

-- an algorithm by its usual name
abbrev pub named_by : Option Row → List ℕ
named_by None = codes "its algorithm"
named_by (Some row) = row.0

-- why a key isn't compared; nothing where it is
abbrev pub reason_by : Parts → List ℕ
reason_by (Carried algorithm) = named_by (usual algorithm) ++ codes " is carried"
reason_by (Scalar algorithm curve key) = cond (is_unnamed algorithm curve) (codes "no curve is named") []
reason_by (Rsa modulus exponent) = []

abbrev pub reason_of : Option Parts → List ℕ
reason_of None = codes "no private key"
reason_of (Some parts) = reason_by parts

-- why two keys aren't compared: for the first one, else for the second one
abbrev pub reason_of_both : Option Parts → Option Parts → List ℕ
reason_of_both parts other = cond (length (reason_of parts) == 0) (reason_of other) (reason_of parts)
