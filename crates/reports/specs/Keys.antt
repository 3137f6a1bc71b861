-- A key and a signature in words: the algorithm, what its parameters name, and how long a public key is.
use Rattle.std.specs.Prelude.{Bool, List, None, Option, Some, [], codes, cond, decimal, false, length, min, nat_le, ℕ, ◌&&◌, ◌*◌, ◌+◌, ◌++◌, ◌-◌, ◌==◌, ◌^◌, ◌∷◌}
use Rattle.std.specs.Int.{leading_zeros, w64}
use Rattle.reports.specs.Asks.{each_in, first_octets, identifier_said, is_identifier, is_step, value_said}
use Rattle.reports.specs.declared.report.Carried.{Carried}
use Rattle.reports.specs.declared.report.Carried.TheVariants.{Der, NotDer, Refused}
use Rattle.reports.specs.declared.report.Line.{Line}
use Rattle.reports.specs.declared.report.Value.{Value}
use Rattle.reports.specs.declared.report.Value.TheVariants as values

-- how many binary digits a number below 2^64 has
abbrev pub bit_length : ℕ → ℕ
bit_length number = 64 - leading_zeros w64 number

-- a sum and a product as far as 64 bits count
abbrev pub counted : ℕ → ℕ
counted number = min number (2 ^ 64 - 1)

-- how many bits a number has, by its octets, the first of which isn't 0
abbrev pub bits_from : List ℕ → ℕ
bits_from [] = 0
bits_from (first ∷ octets) = counted (counted (length octets * 8) + bit_length first)

-- the same by the contents of an INTEGER that isn't negative (X.690 8.3)
abbrev pub integer_bits : List ℕ → ℕ
integer_bits [] = 0
integer_bits (first ∷ octets) = cond (first == 0) (bits_from octets) (bits_from (first ∷ octets))

-- the contents are of an INTEGER below 0
abbrev pub is_below_zero : List ℕ → Bool
is_below_zero [] = false
is_below_zero (first ∷ octets) = nat_le 128 first

-- The modulus of a public key of RSA by its bits.
abbrev pub bits_said : ℕ → List ℕ
bits_said bits = codes ", " ++ (decimal bits ++ codes " bits")

abbrev pub modulus_said : Value → List ℕ
modulus_said (values.Number number) = bits_said (bit_length number)
modulus_said (values.Octets octets) =
    cond (is_below_zero octets.items) (codes ", modulus below 0") (bits_said (integer_bits octets.items))
modulus_said value = []

-- Its exponent in decimal digits, a large one in hexadecimal ones.
abbrev pub integer_said : Value → List ℕ
integer_said (values.Number number) = decimal number
integer_said (values.Octets octets) = codes "0x" ++ first_octets octets.items
integer_said value = []

abbrev pub exponent_said : Value → List ℕ
exponent_said value = codes ", exponent " ++ integer_said value

-- The size of a private key of RSA, whose modulus is public (RFC 8017 section 3.2): so many bits, and the exponent where
-- that is short.

abbrev pub number_in : Value → Option ℕ
number_in (values.Number number) = Some number
number_in value = None

abbrev pub short_exponent : List Line → Option ℕ
short_exponent [] = None
short_exponent (line ∷ lines) = number_in line.value

abbrev pub short_exponent_said : Option ℕ → List ℕ
short_exponent_said None = []
short_exponent_said (Some exponent) = codes ", exponent " ++ decimal exponent

abbrev pub rsa_said : Option ℕ → Option ℕ → List ℕ
rsa_said None exponent = []
rsa_said (Some bits) exponent = bits_said bits ++ short_exponent_said exponent

unfoldable pub key_octets : Line → List ℕ → List ℕ
key_octets line end = codes ", " ++ value_said false line.tag line.value ++ end

-- how long a public key is that isn't said by its elements
abbrev pub key_size : Line → Option Carried → List ℕ
key_size line None = key_octets line []
key_size line (Some Der) = []
key_size line (Some NotDer) = key_octets line (codes ", not in DER")
key_size line (Some (Refused at why)) = key_octets line (codes ", not of its type")

unfoldable pub key_part : Line → List ℕ
key_part line =
    cond (is_step (codes "algorithm") line.step) (identifier_said line.value)
    (cond (is_step (codes "parameters") line.step && is_identifier line.value)
    (codes ", " ++ identifier_said line.value)
    (cond (is_step (codes "subjectPublicKey") line.step) (key_size line line.carries)
    (cond (is_step (codes "modulus") line.step) (modulus_said line.value)
    (cond (is_step (codes "publicExponent") line.step) (exponent_said line.value) []))))

-- these of the element that is the first, after and before other words
abbrev pub key_line : List ℕ → List Line → List ℕ → List ℕ
key_line label [] end = []
key_line label (line ∷ lines) end = label ++ each_in key_part line.depth lines ++ end
