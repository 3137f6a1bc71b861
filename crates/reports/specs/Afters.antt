-- What the octets after a document are, in words.
use Rattle.std.specs.Prelude.{Bool, List, None, Option, [], codes, cond, false, true, ℕ, ◌++◌}
use Rattle.reports.specs.declared.report.After.{After}
use Rattle.reports.specs.declared.report.After.TheVariants as afters
use Rattle.reports.specs.declared.report.Guess.{Guess}
use Rattle.reports.specs.declared.report.Guess.TheVariants as guesses
use Rattle.reports.specs.declared.report.Report.{Report}

-- a document that looks so, but for its kind
abbrev pub document_words : Guess → List ℕ
document_words (guesses.Kind kind) = codes "another document after it, of kind "
document_words guesses.RsaPrivateKey = codes "an RSAPrivateKey (PKCS #1) after it"
document_words guesses.RsaPublicKey = codes "an RSAPublicKey (PKCS #1) after it"
document_words guesses.DsaPrivateKey = codes "a DSA private key after it"
document_words guesses.Certificate = codes "a certificate after it"
document_words guesses.Pkcs12 = codes "a PKCS #12 file after it"
document_words guess = codes "octets after it that are no end of line, no zeros and no document that pkder knows"

abbrev pub after_words : After → List ℕ
after_words afters.Unsaid = []
after_words afters.LineFeed = codes "a line feed that an editor added"
after_words afters.CrLf = codes "an end of line, 0d 0a, that an editor added"
after_words afters.Zeros = codes "padding with zeros"
after_words (afters.Document guess) = document_words guess
after_words afters.NotShown = codes "octets after it that are no end of line and no zeros"

abbrev pub document_kind : Guess → List ℕ
document_kind (guesses.Kind kind) = kind.word.now
document_kind guess = []

-- the word of the kind of a document after it
abbrev pub after_kind : After → List ℕ
after_kind (afters.Document guess) = document_kind guess
after_kind after = []

unfoldable pub after_said : After → List ℕ
after_said after = after_words after ++ after_kind after

abbrev pub is_document : Guess → Bool
is_document guesses.Unknown = false
is_document guess = true

-- it is known what the octets are
abbrev pub is_known : After → Bool
is_known afters.Unsaid = false
is_known afters.NotShown = false
is_known (afters.Document guess) = is_document guess
is_known after = true

-- Where the document ends, for a line of a PEM text that it may have too few or too many: there is none where it is
-- known what comes after it.
abbrev pub line_end : Report → Option ℕ
line_end report = cond (is_known report.after) None report.announced
