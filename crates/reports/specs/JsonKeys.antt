-- What a key says of itself, as tokens of JSON.
use Rattle.std.specs.Prelude.{List, None, Option, Some, [], codes, cond, decimal, ℕ, ◌&&◌, ◌++◌, ◌∷◌}
use Rattle.std.specs.Str.{bytes_eq}
use Rattle.json.specs.Token.{Token}
use Rattle.reports.specs.Asks.{each_in, from_field, identifier_said, is_identifier, is_step}
use Rattle.reports.specs.JsonLists.{carried_member}
use Rattle.reports.specs.JsonMembers.{item, list_member, number_member, object_member, optional, said_member, text_member}
use Rattle.reports.specs.Keys.{bit_length, integer_bits, integer_said, is_below_zero, short_exponent}
use Rattle.reports.specs.Summaries.{curve_name, is_holding}
use Rattle.reports.specs.declared.report.Line.{Line}
use Rattle.reports.specs.declared.report.Report.{Report}
use Rattle.reports.specs.declared.report.Value.{Value}
use Rattle.reports.specs.declared.report.Value.TheVariants as values

-- A key and a signature: the algorithm, what its parameters name, how long a public key is, and what one of RSA has.

abbrev pub size_member : Value → List Token
size_member (values.Bits octets unused first) = number_member (codes "octets") octets
size_member value = []

-- the size, and what the key is as one of its type
abbrev pub key_members : Line → List Token
key_members line = size_member line.value ++ optional carried_member line.carries

abbrev pub bits_member : List ℕ → List Token
bits_member contents = cond (is_below_zero contents) [] (number_member (codes "bits") (integer_bits contents))

abbrev pub modulus_member : Value → List Token
modulus_member (values.Number number) = number_member (codes "bits") (bit_length number)
modulus_member (values.Octets octets) = bits_member octets.items
modulus_member value = []

abbrev pub key_part : Line → List Token
key_part line =
    cond (is_step (codes "algorithm") line.step && is_identifier line.value)
    (text_member (codes "algorithm") (identifier_said line.value))
    (cond (is_step (codes "parameters") line.step && is_identifier line.value)
    (text_member (codes "parameters") (identifier_said line.value))
    (cond (is_step (codes "subjectPublicKey") line.step) (key_members line)
    (cond (is_step (codes "modulus") line.step) (modulus_member line.value)
    (cond (is_step (codes "publicExponent") line.step)
    (said_member (codes "exponent") (integer_said line.value)) []))))

abbrev pub key_member : List ℕ → List Line → List Token
key_member name [] = []
key_member name (line ∷ lines) = object_member name (each_in key_part line.depth lines)

-- How a key is encrypted: identifiers and numbers in their order.

abbrev pub identifier_of : Value → List Token
identifier_of value = cond (is_identifier value) (item (identifier_said value)) []

abbrev pub number_of : Value → List Token
number_of (values.Number number) = item (decimal number)
number_of value = []

abbrev pub identifier_item : Line → List Token
identifier_item line = identifier_of line.value

abbrev pub number_item : Line → List Token
number_item line = number_of line.value

unfoldable pub scheme_members : ℕ → List Line → List Token
scheme_members depth lines =
    list_member (codes "algorithms") (each_in identifier_item depth lines)
    ++ list_member (codes "numbers") (each_in number_item depth lines)

abbrev pub scheme_member : List ℕ → List Line → List Token
scheme_member name [] = []
scheme_member name (line ∷ lines) = object_member name (scheme_members line.depth lines)

unfoldable pub encryption_members : List Line → List Token
encryption_members lines = scheme_member (codes "encryption") (from_field (codes "encryptionAlgorithm") lines)

unfoldable pub curve_members : List Line → List Token
curve_members lines = said_member (codes "curve") (curve_name (from_field (codes "parameters") lines))

-- a private key: the parts of its algorithm, and the size of one of RSA

abbrev pub rsa_members : Option ℕ → Option ℕ → List Token
rsa_members None exponent = []
rsa_members (Some bits) exponent =
    number_member (codes "bits") bits ++ optional (λ number. text_member (codes "exponent") (decimal number)) exponent

abbrev pub sized_key : Option ℕ → Option ℕ → List Line → List Token
sized_key modulus exponent [] = []
sized_key modulus exponent (line ∷ lines) =
    object_member (codes "key") (each_in key_part line.depth lines ++ rsa_members modulus exponent)

unfoldable pub private_key_members : Option ℕ → List Line → List Token
private_key_members modulus lines =
    sized_key modulus (short_exponent (from_field (codes "publicExponent") lines))
    (from_field (codes "privateKeyAlgorithm") lines)

-- What a key says of itself, by its kind.
unfoldable pub held_members : List ℕ → Option ℕ → List Line → List Token
held_members kind modulus lines =
    cond (bytes_eq kind (codes "encrypted")) (encryption_members lines)
    (cond (bytes_eq kind (codes "ec")) (curve_members lines)
    (cond (bytes_eq kind (codes "key")) (private_key_members modulus lines) (key_member (codes "key") lines)))

abbrev pub holds_member : Report → List Token
holds_member report =
    cond (is_holding report)
    (object_member (codes "holds") (held_members report.kind.word.now report.modulus report.lines.items)) []
