-- What is remarked on public keys: on those of RSA, which are looked into, and on the curves of others.
use Rattle.std.specs.Prelude.{Bool, List, None, Option, Some, [], codes, false, length, nat_lt, option_and_then, slice_get, string_bytes, true, ℕ, ◌%◌, ◌-◌, ◌==◌, ◌||◌, ◌∷◌}
use Rattle.std.specs.Option.{option_map}
use Rattle.pkix_definitions.specs.Identifiers.{entry_under}
use Rattle.explain.specs.Remarks.{remark_if}
use Rattle.reports.specs.Keys.{bit_length, integer_bits, is_below_zero}
use Rattle.reports.specs.declared.report.Carried.{Carried}
use Rattle.reports.specs.declared.report.Carried.TheVariants as carried
use Rattle.reports.specs.declared.report.KeyRemark.TheVariants.{EvenModulus, Exponent, NegativeModulus, NotDer, Refused, ShortModulus, SmallCurve}
use Rattle.reports.specs.declared.report.Remark.{Remark}
use Rattle.reports.specs.declared.report.Remark.TheVariants.{Key}
use Rattle.reports.specs.declared.report.Value.{Value}
use Rattle.reports.specs.declared.report.Value.TheVariants.{Arcs, Named, Number, Octets}

-- What a public key of RSA contains is an RSAPublicKey in DER (RFC 3279 section 2.3.1).
abbrev pub remark_on_inside : Carried → Option Remark
remark_on_inside carried.Der = None
remark_on_inside carried.NotDer = Some (Key NotDer)
remark_on_inside (carried.Refused at why) = Some (Key (Refused at why))

abbrev pub ends_even : Option ℕ → Bool
ends_even None = true
ends_even (Some last) = (last % 2) == 0

abbrev pub is_even : List ℕ → Bool
is_even octets = ends_even (slice_get octets (length octets - 1))

-- A modulus is positive, and odd, as its primes are (RFC 8017 section 3.1); one of fewer than 2048 bits is short (NIST
-- SP 800-131A).
abbrev pub remark_on_number : Bool → Bool → ℕ → Option Remark
remark_on_number true even bits = Some (Key NegativeModulus)
remark_on_number false true bits = Some (Key EvenModulus)
remark_on_number false false bits = remark_if (nat_lt bits 2048) (Key (ShortModulus bits))

abbrev pub remark_on_modulus : Value → Option Remark
remark_on_modulus (Number number) = remark_on_number false ((number % 2) == 0) (bit_length number)
remark_on_modulus (Octets octets) =
    remark_on_number (is_below_zero octets.items) (is_even octets.items) (integer_bits octets.items)
remark_on_modulus _ = None

-- A public exponent is odd, and 3 at least (RFC 8017 section 3.1): one that is shown by its octets is below 0 or large.
abbrev pub remark_on_exponent : Value → Option Remark
remark_on_exponent (Number number) = remark_if (((number % 2) == 0) || nat_lt number 3) (Key Exponent)
remark_on_exponent (Octets octets) = remark_if (is_below_zero octets.items || is_even octets.items) (Key Exponent)
remark_on_exponent _ = None

-- the arcs of an object identifier, in decimal
abbrev pub arcs_in : Value → Option (List ℕ)
arcs_in (Named identifier) = Some identifier.now.arcs.now
arcs_in (Arcs text) = Some (string_bytes text)
arcs_in _ = None

-- the named curves of fewer than 224 bits, with their bits: secp192r1, sect163k1, sect163r2 (RFC 5480 section 2.1.1.1)
abbrev pub small_curves : List (List ℕ × ℕ)
small_curves =
    (codes "1.2.840.10045.3.1.1", 192) ∷ (codes "1.3.132.0.1", 163) ∷ (codes "1.3.132.0.15", 163) ∷ []

abbrev pub small_curve_bits : List ℕ → Option ℕ
small_curve_bits arcs = entry_under small_curves arcs

-- A named curve has 224 bits at least (NIST SP 800-131A).
abbrev pub remark_on_curve : Value → Option Remark
remark_on_curve value = option_map (λ bits. Key (SmallCurve bits)) (option_and_then small_curve_bits (arcs_in value))
