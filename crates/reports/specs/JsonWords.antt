-- Words of JSON that stay as they are, whatever the words of the text become.
use Rattle.std.specs.Prelude.{List, [], codes, ℕ}
use Rattle.tlv_core.specs.declared.tag.Class.{Class}
use Rattle.tlv_core.specs.declared.tag.Class.TheVariants.{Application, Context, Private, Universal}
use Rattle.reports.specs.declared.report.Cause.{Cause}
use Rattle.reports.specs.declared.report.Cause.TheVariants as causes
use Rattle.reports.specs.declared.report.Guess.{Guess}
use Rattle.reports.specs.declared.report.Guess.TheVariants as guesses

-- the class of a tag (X.690 8.1.2.2)
abbrev pub class_word : Class → List ℕ
class_word Universal = codes "universal"
class_word Application = codes "application"
class_word Context = codes "context"
class_word Private = codes "private"

-- why an element isn't in DER
abbrev pub cause_word : Cause → List ℕ
cause_word causes.LongLength = codes "long_length"
cause_word causes.IndefiniteLength = codes "indefinite_length"
cause_word causes.Segments = codes "segments"
cause_word causes.True = codes "true"
cause_word causes.UnusedBits = codes "unused_bits"
cause_word causes.Default = codes "default"
cause_word causes.Order = codes "order"

-- what the file may be instead; a document of another kind by the word of that
abbrev pub guess_word : Guess → List ℕ
guess_word guesses.Unknown = []
guess_word guesses.Empty = codes "empty"
guess_word (guesses.Pem label) = codes "pem"
guess_word (guesses.PemBehind label) = codes "pem_behind"
guess_word (guesses.EncryptedPem label) = codes "encrypted_pem"
guess_word (guesses.Kind kind) = kind.word.now
guess_word guesses.RsaPrivateKey = codes "rsa_private_key"
guess_word guesses.RsaPublicKey = codes "rsa_public_key"
guess_word guesses.DsaPrivateKey = codes "dsa_private_key"
guess_word guesses.Certificate = codes "certificate"
guess_word guesses.Pkcs12 = codes "pkcs12"
guess_word guesses.Hexadecimal = codes "hexadecimal"
guess_word guesses.Base64 = codes "base64"
guess_word guesses.Dump = codes "dump"
guess_word guesses.Utf16 = codes "utf16"
guess_word guesses.Markup = codes "markup"
guess_word guesses.Json = codes "json"
guess_word guesses.PrivateJwk = codes "jwk_private"
guess_word guesses.PublicJwk = codes "jwk"
guess_word guesses.PrivateRsaXml = codes "xml_private_key"
guess_word guesses.PublicRsaXml = codes "xml_key"
guess_word guesses.JavaKeyStore = codes "java_key_store"
guess_word guesses.OpenSshKey = codes "openssh_key"
guess_word guesses.SshPublicKey = codes "ssh_public_key"
guess_word guesses.PuttyKey = codes "putty_key"
guess_word guesses.Ssh2PublicKey = codes "ssh2_public_key"
guess_word guesses.Recoded = codes "recoded"
guess_word guesses.Replaced = codes "replaced"
guess_word guesses.TextLines = codes "text_lines"
