-- What an accepted document says of itself, in words: what a request asks for, and what a key is.
use Rattle.std.specs.Prelude.{Bool, List, Option, [], codes, cond, decimal, length, ℕ, ◌&&◌, ◌++◌, ◌==◌, ◌||◌, ◌∷◌}
use Rattle.std.specs.Str.{bytes_eq}
use Rattle.reports.specs.Asks.{each_in, from_field, identifier_said, is_accepted, is_asking, is_step, others_said, subject_line}
use Rattle.reports.specs.Keys.{key_line, rsa_said, short_exponent}
use Rattle.reports.specs.Texts.{line_feed}
use Rattle.reports.specs.declared.report.Line.{Line}
use Rattle.reports.specs.declared.report.Report.{Report}
use Rattle.reports.specs.declared.report.Value.{Value}
use Rattle.reports.specs.declared.report.Value.TheVariants as values

-- subject, key and signature, and after them attributes and extensions
unfoldable pub parts_said : List Line → List Line → List Line → List Line → List ℕ
parts_said subject key algorithm lines =
    subject_line subject ++ key_line (codes "  key        ") key line_feed
    ++ key_line (codes "  signature  ") algorithm (codes ", not verified\n") ++ others_said lines

abbrev pub asked_lines : List Line → List ℕ
asked_lines lines =
    parts_said (from_field (codes "subject") lines) (from_field (codes "subjectPKInfo") lines)
    (from_field (codes "signatureAlgorithm") lines) lines

-- How a key is encrypted: its scheme, and of the parameters of that identifiers and numbers in their order.

abbrev pub parameter_said : Value → List ℕ
parameter_said (values.Named identifier) = codes ", " ++ identifier.now.name.now
parameter_said (values.Arcs arcs) = codes ", " ++ identifier_said (values.Arcs arcs)
parameter_said (values.Number number) = codes ", " ++ decimal number
parameter_said value = []

abbrev pub scheme_part : Line → List ℕ
scheme_part line =
    cond (is_step (codes "algorithm") line.step) (identifier_said line.value) (parameter_said line.value)

abbrev pub scheme_line : List ℕ → List Line → List ℕ → List ℕ
scheme_line label [] end = []
scheme_line label (line ∷ lines) end = label ++ each_in scheme_part line.depth lines ++ end

-- The curve that the parameters of an ECPrivateKey name, of which the lines are: the tag's, and its own.

abbrev pub curve_name : List Line → List ℕ
curve_name (line ∷ (curve ∷ lines)) = identifier_said curve.value
curve_name lines = []

abbrev pub curve_said : List ℕ → List ℕ
curve_said name = cond (length name == 0) (codes "not named") name

unfoldable pub curve_line : List Line → List ℕ
curve_line lines =
    codes "  curve      " ++ curve_said (curve_name (from_field (codes "parameters") lines)) ++ line_feed

unfoldable pub encryption_line : List Line → List ℕ
encryption_line lines =
    scheme_line (codes "  encrypted  ") (from_field (codes "encryptionAlgorithm") lines) line_feed

unfoldable pub public_key_line : List Line → List ℕ
public_key_line lines = key_line (codes "  key        ") lines line_feed

-- after its algorithm the size of a key of RSA
unfoldable pub private_key_line : Option ℕ → List Line → List ℕ
private_key_line modulus lines =
    key_line (codes "  key        ") (from_field (codes "privateKeyAlgorithm") lines)
    (rsa_said modulus (short_exponent (from_field (codes "publicExponent") lines)) ++ line_feed)

-- What a key says of itself, by its kind.
unfoldable pub held_line : List ℕ → Option ℕ → List Line → List ℕ
held_line kind modulus lines =
    cond (bytes_eq kind (codes "encrypted")) (encryption_line lines)
    (cond (bytes_eq kind (codes "ec")) (curve_line lines)
    (cond (bytes_eq kind (codes "key")) (private_key_line modulus lines) (public_key_line lines)))

abbrev pub is_key : List ℕ → Bool
is_key kind =
    bytes_eq kind (codes "key") || bytes_eq kind (codes "ec") || bytes_eq kind (codes "public")
    || bytes_eq kind (codes "encrypted")

abbrev pub is_holding : Report → Bool
is_holding report = is_accepted report.answer && is_key report.kind.word.now

unfoldable pub holds_lines : Report → List ℕ
holds_lines report =
    cond (is_holding report)
    (line_feed ++ codes "holds\n" ++ held_line report.kind.word.now report.modulus report.lines.items) []

-- What an accepted document says of itself; of another one, and of a package, nothing.
unfoldable pub summary_lines : Report → List ℕ
summary_lines report =
    cond (is_asking report) (line_feed ++ codes "asks for\n" ++ asked_lines report.lines.items) (holds_lines report)
