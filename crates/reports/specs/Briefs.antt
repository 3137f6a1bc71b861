-- The answer for whoever sent a file: one to three sentences, without places.
use Rattle.std.specs.Prelude.{Bool, List, None, Option, Some, [], codes, cond, false, length, nat_lt, not, true, ℕ, ◌&&◌, ◌++◌, ◌-◌, ◌==◌, ◌||◌}
use Rattle.std.specs.Str.{bytes_eq}
use Rattle.tlv_core.specs.declared.fault.Fault.{Fault}
use Rattle.tlv_core.specs.declared.reason.Reason.{Reason}
use Rattle.tlv_core.specs.declared.reason.Reason.TheVariants as reasons
use Rattle.reports.specs.Guesses.{certificate_labels, is_among, is_request, private_labels, public_labels, unread_labels}
use Rattle.reports.specs.Afters.{line_end}
use Rattle.reports.specs.Hints.{is_lines}
use Rattle.reports.specs.Notes.{has_must}
use Rattle.reports.specs.Texts.{line_feed}
use Rattle.reports.specs.declared.brief.Harm.{Harm}
use Rattle.reports.specs.declared.brief.Harm.TheVariants as harms
use Rattle.reports.specs.declared.brief.Thing.{Thing}
use Rattle.reports.specs.declared.brief.Thing.TheVariants as things
use Rattle.reports.specs.declared.report.Answer.{Answer}
use Rattle.reports.specs.declared.report.Answer.TheVariants.{Der, NotDer, Refused}
use Rattle.reports.specs.declared.report.Guess.{Guess}
use Rattle.reports.specs.declared.report.Guess.TheVariants as guesses
use Rattle.reports.specs.declared.report.Note.{Note}
use Rattle.reports.specs.declared.report.Report.{Report}

-- ---- what is accepted

abbrev pub sound_words : List ℕ → List ℕ
sound_words kind =
    cond (is_request kind) (codes "This is a sound certification request (CSR).")
    (cond (bytes_eq kind (codes "public")) (codes "This is a sound public key.")
    (cond (bytes_eq kind (codes "encrypted"))
    (codes "This is an encrypted private key, sound as far as can be told without its password.")
    (cond (bytes_eq kind (codes "package")) (codes "This is a sound package of private keys.")
    (codes "This is a sound private key."))))

abbrev pub plain_words : List ℕ → List ℕ
plain_words kind =
    cond (is_request kind) (codes "This is a certification request (CSR).")
    (cond (bytes_eq kind (codes "public")) (codes "This is a public key.")
    (cond (bytes_eq kind (codes "encrypted")) (codes "This is an encrypted private key.")
    (cond (bytes_eq kind (codes "package")) (codes "This is a package of private keys.")
    (codes "This is a private key."))))

-- what it is
abbrev pub accepted_words : List ℕ → Bool → List ℕ
accepted_words kind is_der = cond is_der (sound_words kind) (plain_words kind)

-- in which way it is written
abbrev pub way_words : Bool → List ℕ
way_words is_der =
    cond is_der [] (codes " It is sound, but written in another way than DER, which some programs refuse.")

-- whether other standards forbid what is in it
abbrev pub notes_words : List Note → List ℕ
notes_words notes = cond (has_must notes) (codes " Other standards forbid what is in it: see the notes.") []

unfoldable pub accepted_said : List ℕ → Bool → List Note → List ℕ
accepted_said kind is_der notes = accepted_words kind is_der ++ way_words is_der ++ notes_words notes

-- ---- what is refused, and looks like nothing else

-- documents of the kind are sent to others; a private key stays with its owner
abbrev pub is_sent : List ℕ → Bool
is_sent kind = is_request kind || bytes_eq kind (codes "public")

abbrev pub lost_words : List ℕ → List ℕ
lost_words kind =
    cond (is_sent kind) (codes "A line of its PEM text is missing: send it again, whole.")
    (codes "A line of its PEM text is missing: fetch it again, whole.")

abbrev pub once_more : List ℕ → List ℕ
once_more kind =
    cond (is_sent kind) (codes "A line of its PEM text stands twice: send it again.")
    (codes "A line of its PEM text stands twice: fetch it again.")

-- a line of a PEM text is missing, or stands twice
abbrev pub lines_by : List ℕ → ℕ → ℕ → List ℕ
lines_by kind octets announced =
    cond (nat_lt octets announced && is_lines (announced - octets)) (lost_words kind)
    (cond (nat_lt announced octets && is_lines (octets - announced)) (once_more kind) [])

abbrev pub lines_brief : List ℕ → ℕ → Option ℕ → List ℕ
lines_brief kind octets None = []
lines_brief kind octets (Some announced) = lines_by kind octets announced

-- the file has fewer octets than it says
abbrev pub is_short : ℕ → Option ℕ → Bool
is_short octets None = false
is_short octets (Some announced) = nat_lt octets announced

-- where another type was due: of an ECPrivateKey a curve by its name, after the key
abbrev pub wrong_tag_harm : List ℕ → ℕ → Harm
wrong_tag_harm kind at =
    cond (nat_lt at 14) harms.AnotherKind (cond (bytes_eq kind (codes "ec")) harms.WrittenOut harms.Damaged)

-- by the place in the file
unfoldable pub harm_at : List ℕ → ℕ → Reason → Bool → Harm
harm_at kind at reasons.Truncated is_short = harms.CutOff
harm_at kind at reasons.PastEnd is_short = cond is_short harms.CutOff harms.Damaged
harm_at kind at reasons.WrongTag is_short = wrong_tag_harm kind at
harm_at kind at reasons.Trailing is_short = harms.More
harm_at kind at reasons.TooLong is_short = harms.TooLong
harm_at kind at reasons.TextTooLong is_short = harms.TooLong
harm_at kind at reasons.TooDeep is_short = harms.TooDeep
harm_at kind at reasons.LeftOut is_short = harms.Unread
harm_at kind at reasons.BadText is_short = harms.Text
harm_at kind at reasons.Curve is_short = harms.TwoCurves
harm_at kind at reasons.Version is_short = harms.Writer
harm_at kind at reasons.VersionRule is_short = harms.Writer
harm_at kind at reasons.Parameters is_short = harms.Writer
harm_at kind at reasons.KeyLength is_short = harms.Writer
harm_at kind at reasons.BadInteger is_short = harms.Writer
harm_at kind at reasons.BadBits is_short = harms.Writer
harm_at kind at reasons.EmptySet is_short = harms.Writer
harm_at kind at why is_short = harms.Damaged

-- inside privateKey, where the file is whole
unfoldable pub harm_inside : Reason → Harm
harm_inside reasons.Version = harms.Writer
harm_inside reasons.VersionRule = harms.Writer
harm_inside reasons.Parameters = harms.Writer
harm_inside reasons.KeyLength = harms.Writer
harm_inside reasons.BadInteger = harms.Writer
harm_inside reasons.BadBits = harms.Writer
harm_inside reasons.TooLong = harms.Writer
harm_inside reasons.Trailing = harms.Writer
harm_inside reasons.TooDeep = harms.TooDeep
harm_inside reasons.Curve = harms.TwoCurves
harm_inside why = harms.Damaged

abbrev pub harm_by : Option (ℕ × Reason) → Harm → Harm
harm_by None harm = harm
harm_by (Some inside) harm = harm_inside inside.1

abbrev pub harm_of : List ℕ → Fault → Bool → Harm
harm_of kind fault is_short = harm_by fault.inside (harm_at kind fault.at fault.why is_short)

-- what is wrong with what is sent to others, and what to do
unfoldable pub sent_words : Harm → List ℕ
sent_words harms.CutOff = codes "It is cut off: send it again, whole."
sent_words harms.More =
    codes "Something follows after its end, such as a line feed of an editor or a second file: send it alone."
sent_words harms.TooLong =
    codes "It is longer than is allowed here, or damaged: send it again, or ask for a larger limit."
sent_words harms.TooDeep = codes "It is nested deeper than is allowed here: if you know why, ask for a larger limit."
sent_words harms.Unread = codes "It has something in it that pkder doesn't read, and so can't judge."
sent_words harms.AnotherKind = codes "This is another kind of file than was asked for, or its beginning is damaged: "
sent_words harms.WrittenOut = codes "A curve in it may be written out, which has to be named; else it is damaged."
sent_words harms.Damaged = codes "It is damaged: send it again, and if that is refused too, make a new one."
sent_words harms.Writer =
    codes "The program that wrote it made a mistake: make a new one, by a newer version of it or by another program."
sent_words harms.Text = codes "A text in it isn't in UTF-8: make a new one, with its text in UTF-8."
sent_words harms.TwoCurves = codes "It names two curves that differ: never use it."

-- what is to be sent
abbrev pub asked_words : List ℕ → List ℕ
asked_words kind =
    cond (is_request kind) (codes "send the certification request (CSR).") (codes "send the public key.")

-- in place of a file of another kind
abbrev pub sent_end : List ℕ → Harm → List ℕ
sent_end kind harms.AnotherKind = asked_words kind
sent_end kind harm = []

-- the same of a private key, which stays with its owner
unfoldable pub kept_words : Harm → List ℕ
kept_words harms.CutOff = codes "It is cut off: fetch it again, whole."
kept_words harms.More =
    codes "Something follows after its end, such as a line feed of an editor or a second file: look at it "
    ++ codes "before you cut it off."
kept_words harms.TooLong =
    codes "It is longer than is allowed here, or damaged: fetch it again, or raise the limit (--octets)."
kept_words harms.TooDeep =
    codes "It is nested deeper than is allowed here: raise the limit (--depth), if you know the file."
kept_words harms.Unread = codes "It has something in it that pkder doesn't read, and so can't judge."
kept_words harms.AnotherKind = codes "This is another kind of file than was asked for, or its beginning is damaged."
kept_words harms.WrittenOut =
    codes "A curve in it may be written out: openssl ec -param_enc named_curve names it. Else it is damaged, "
    ++ codes "and not to be used."
kept_words harms.Damaged = codes "It is damaged: fetch it again, and if that is refused too, don't use it."
kept_words harms.Writer = codes "The program that wrote it made a mistake: have it written anew."
kept_words harms.Text = codes "A text in it isn't in UTF-8: have it written anew, with its text in UTF-8."
kept_words harms.TwoCurves = codes "It names two curves that differ: never use it."

abbrev pub harm_said : List ℕ → Harm → List ℕ
harm_said kind harm = cond (is_sent kind) (sent_words harm ++ sent_end kind harm) (kept_words harm)

-- by a line of a PEM text; else by the reason
abbrev pub line_or : List ℕ → List ℕ → List ℕ
line_or line harm = cond (length line == 0) harm line

abbrev pub line_brief : Report → Fault → List ℕ
line_brief report fault =
    line_or (lines_brief report.kind.word.now report.octets (line_end report))
    (harm_said report.kind.word.now (harm_of report.kind.word.now fault (is_short report.octets report.announced)))

-- ---- what is refused, and looks like something else

-- the label of private keys as they are
abbrev pub is_key_label : List ℕ → Bool
is_key_label label =
    bytes_eq label (codes "PRIVATE KEY") || bytes_eq label (codes "EC PRIVATE KEY") || is_among private_labels label

-- by the label of PEM
abbrev pub thing_labelled : List ℕ → Thing
thing_labelled label =
    cond (is_key_label label) things.PrivateKey
    (cond (bytes_eq label (codes "ENCRYPTED PRIVATE KEY")) things.EncryptedKey
    (cond (bytes_eq label (codes "CERTIFICATE REQUEST") || bytes_eq label (codes "NEW CERTIFICATE REQUEST"))
    things.Request
    (cond (bytes_eq label (codes "PUBLIC KEY") || is_among public_labels label) things.PublicKey
    (cond (is_among certificate_labels label) things.Certificate things.Unknown))))

abbrev pub thing_of_kind : List ℕ → Thing
thing_of_kind kind =
    cond (is_request kind) things.Request
    (cond (bytes_eq kind (codes "public")) things.PublicKey
    (cond (bytes_eq kind (codes "encrypted")) things.EncryptedKey
    (cond (bytes_eq kind (codes "package")) things.KeyPackage things.PrivateKey)))

-- a key of a form that no kind has
abbrev pub key_of : Guess → Thing
key_of guesses.RsaPrivateKey = things.PrivateKey
key_of guesses.DsaPrivateKey = things.PrivateKey
key_of guesses.PrivateJwk = things.PrivateKey
key_of guesses.PrivateRsaXml = things.PrivateKey
key_of guesses.OpenSshKey = things.PrivateKey
key_of guesses.PuttyKey = things.PrivateKey
key_of guesses.RsaPublicKey = things.PublicKey
key_of guesses.PublicJwk = things.PublicKey
key_of guesses.PublicRsaXml = things.PublicKey
key_of guesses.SshPublicKey = things.PublicKey
key_of guesses.Ssh2PublicKey = things.PublicKey
key_of guess = things.Unknown

-- what a file is, as whoever sent it knows it
unfoldable pub thing_of : Guess → Thing
thing_of (guesses.Pem label) = thing_labelled label.now
thing_of (guesses.PemBehind label) = thing_labelled label.now
thing_of (guesses.EncryptedPem label) = cond (is_key_label label.now) things.EncryptedKey things.Unknown
thing_of (guesses.Kind kind) = thing_of_kind kind.word.now
thing_of guesses.Certificate = things.Certificate
thing_of guesses.Pkcs12 = things.Pkcs12
thing_of guesses.JavaKeyStore = things.KeyStore
thing_of guess = key_of guess

-- it may be what was asked for, in another form
abbrev pub is_due : List ℕ → Thing → Bool
is_due kind things.PrivateKey = not (is_sent kind)
is_due kind things.EncryptedKey = not (is_sent kind)
is_due kind things.KeyPackage = not (is_sent kind)
is_due kind things.Pkcs12 = not (is_sent kind)
is_due kind things.KeyStore = not (is_sent kind)
is_due kind things.PublicKey = bytes_eq kind (codes "public")
is_due kind things.Request = is_request kind
is_due kind things.Certificate = false
is_due kind things.Unknown = true

unfoldable pub thing_words : Thing → List ℕ
thing_words things.PrivateKey = codes "This is a private key"
thing_words things.EncryptedKey = codes "This is an encrypted private key"
thing_words things.KeyPackage = codes "This is a package of private keys"
thing_words things.Pkcs12 = codes "This is a file of keys and certificates (PKCS #12)"
thing_words things.KeyStore = codes "This is a file of keys and certificates (a key store of Java)"
thing_words things.PublicKey = codes "This is a public key"
thing_words things.Request = codes "This is a certification request (CSR)"
thing_words things.Certificate = codes "This is a certificate"
thing_words things.Unknown = codes "This is something else"

-- what it is not
abbrev pub instead_words : List ℕ → List ℕ
instead_words kind =
    cond (is_request kind) (codes ", and not a request")
    (cond (bytes_eq kind (codes "public")) (codes ", and not a public key") (codes ", and not a private key"))

-- in place of a request
unfoldable pub request_act : Thing → List ℕ
request_act things.PrivateKey = codes ". A key that was sent counts as lost: make a new one, and send its request."
request_act things.KeyPackage = codes ". Keys that were sent count as lost: make new ones, and send their requests."
request_act things.EncryptedKey =
    codes ". A key that was sent counts as lost if its password went with it or can be guessed: make a new one "
    ++ codes "then. Send its request alone."
request_act things.Pkcs12 =
    codes ". A key that was sent counts as lost if its password went with it or can be guessed: make a new one "
    ++ codes "then. Send its request alone."
request_act things.KeyStore =
    codes ". A key that was sent counts as lost if its password went with it or can be guessed: make a new one "
    ++ codes "then. Send its request alone."
request_act things.PublicKey = codes ": send the request that has this key in it."
request_act things.Certificate = codes ": send the request that it was made of."
request_act things.Request = codes "."
request_act things.Unknown = codes "."

-- in place of a public key
unfoldable pub public_act : Thing → List ℕ
public_act things.PrivateKey = codes ". A key that was sent counts as lost: make a new one, and send its public key."
public_act things.KeyPackage = codes ". Keys that were sent count as lost: make new ones, and send their public keys."
public_act things.EncryptedKey =
    codes ". A key that was sent counts as lost if its password went with it or can be guessed: make a new one "
    ++ codes "then. Send its public key alone."
public_act things.Pkcs12 =
    codes ". A key that was sent counts as lost if its password went with it or can be guessed: make a new one "
    ++ codes "then. Send its public key alone."
public_act things.KeyStore =
    codes ". A key that was sent counts as lost if its password went with it or can be guessed: make a new one "
    ++ codes "then. Send its public key alone."
public_act things.Request = codes ": send the public key that is in it."
public_act things.Certificate = codes ": send the public key that is in it."
public_act things.PublicKey = codes "."
public_act things.Unknown = codes "."

abbrev pub instead_act : List ℕ → Thing → List ℕ
instead_act kind thing =
    cond (is_request kind) (request_act thing) (cond (bytes_eq kind (codes "public")) (public_act thing) (codes "."))

-- what the file is in place of what was asked for, and what to do
unfoldable pub instead_said : List ℕ → Thing → List ℕ
instead_said kind thing = thing_words thing ++ instead_words kind ++ instead_act kind thing

-- the form that it came in, of PEM with this label
abbrev pub pem_form : List ℕ → List ℕ
pem_form label =
    cond (bytes_eq label (codes "OPENSSH PRIVATE KEY"))
    (codes "This is a private key in OpenSSH's own form: of RSA and ECDSA keys ssh-keygen -p -m PKCS8 "
    ++ codes "writes PKCS #8 over a copy.")
    (cond (bytes_eq label (codes "SM2 PRIVATE KEY"))
    (codes "This is a private key as PEM text: decode it to its binary form (DER), and read it with --kind ec.")
    (cond (is_among private_labels label)
    (codes "This is a private key in an older form, as PEM text: openssl pkcs8 -topk8 -nocrypt makes it PKCS #8.")
    (cond (is_among public_labels label)
    (codes "This is a public key in an older form, as PEM text: openssl rsa -RSAPublicKey_in -pubout "
    ++ codes "writes the usual one.")
    (cond (is_among unread_labels label) (codes "This is PEM text of something that pkder doesn't read.")
    (cond (length label == 0)
    (codes "This is PEM text with a label that isn't a usual one: decode it to its binary form (DER) first.")
    (codes "This is PEM text: decode it to its binary form (DER) first."))))))

-- of a private key of this kind, where another was asked for
abbrev pub kind_form : List ℕ → List ℕ
kind_form kind =
    cond (bytes_eq kind (codes "ec"))
    (codes "This is a private key in another form than was asked for: read it with --kind ec.")
    (cond (bytes_eq kind (codes "encrypted"))
    (codes "This is an encrypted private key: read it with --kind encrypted.")
    (cond (bytes_eq kind (codes "package"))
    (codes "This is a package of private keys: read it with --kind package.")
    (codes "This is a private key in another form than was asked for: read it with --kind key.")))

-- of a key of a form that no kind has
unfoldable pub key_form : Guess → List ℕ
key_form guesses.RsaPrivateKey =
    codes "This is an RSA private key in an older form (PKCS #1): openssl pkcs8 -topk8 -nocrypt makes it PKCS #8."
key_form guesses.DsaPrivateKey =
    codes "This is a DSA private key in an older form: openssl pkcs8 -topk8 -nocrypt makes it PKCS #8."
key_form guesses.RsaPublicKey =
    codes "This is an RSA public key in an older form (PKCS #1): openssl rsa -RSAPublicKey_in -pubout writes "
    ++ codes "the usual one."
key_form guesses.PrivateJwk =
    codes "This is a private key as JSON has it (JWK): crypto.createPrivateKey of Node.js reads it."
key_form guesses.PublicJwk =
    codes "This is a public key as JSON has it (JWK): crypto.createPublicKey of Node.js reads it."
key_form guesses.PrivateRsaXml = codes "This is a private key of RSA in XML: have it written as PEM."
key_form guesses.PublicRsaXml = codes "This is a public key of RSA in XML: have it written as PEM."
key_form guesses.OpenSshKey =
    codes "This is a private key in OpenSSH's own form, without its label: take the file that begins with -----BEGIN."
key_form guesses.SshPublicKey =
    codes "This is a public key as SSH has it: of RSA and ECDSA keys ssh-keygen -e -m PKCS8 writes it as PEM."
key_form guesses.PuttyKey =
    codes "This is a private key of PuTTY or ssh.com: puttygen -O private-openssh writes it as PEM."
key_form guesses.Ssh2PublicKey =
    codes "This is a public key in lines of SSH2 (RFC 4716): ssh-keygen -i writes it in one line."
key_form guess = []

-- of what is neither PEM nor of a kind
unfoldable pub file_form : Guess → List ℕ
file_form guesses.Empty = codes "The file is empty: "
file_form (guesses.EncryptedPem label) =
    codes "This is PEM text, encrypted in an old form: openssl pkcs8 -topk8 asks for its password, and writes "
    ++ codes "it in a newer one."
file_form guesses.Certificate = codes "This is a certificate."
file_form guesses.Pkcs12 =
    codes "This is a file of keys and certificates (PKCS #12): openssl pkcs12 -nodes -nocerts writes its private key."
file_form guesses.Hexadecimal = codes "This is text in hexadecimal figures: make it binary first, as xxd -r -p does."
file_form guesses.Dump =
    codes "This is a dump, hexadecimal figures with places in front: make it binary first, as xxd -r does."
file_form guesses.Base64 = codes "This is base64 text without a label: decode it to its binary form (DER) first."
file_form guesses.Utf16 = codes "This is text in UTF-16: save it as text in UTF-8."
file_form guesses.Markup =
    codes "This is a page of HTML or XML, often one of an error or a login: fetch the file itself."
file_form guesses.Json = codes "This is JSON: take the document out of the field that has it."
file_form guesses.JavaKeyStore =
    codes "This is a file of keys and certificates (a key store of Java): keytool -importkeystore makes it PKCS #12."
file_form guesses.Recoded = codes "The octets were taken for text: "
file_form guesses.Replaced = codes "The octets were taken for text, and some of them are lost: "
file_form guesses.TextLines = codes "The octets were taken for text (each 0a has a 0d before it): "
file_form guess = key_form guess

unfoldable pub form_words : Guess → List ℕ
form_words (guesses.Pem label) = pem_form label.now
form_words (guesses.PemBehind label) = pem_form label.now
form_words (guesses.Kind kind) = kind_form kind.word.now
form_words guess = file_form guess

-- how to have it again
abbrev pub sent_as : List ℕ → List ℕ
sent_as kind =
    cond (is_sent kind) (codes "send it again, as binary or as PEM.") (codes "fetch it again, as binary or as PEM.")

abbrev pub form_end : List ℕ → Guess → List ℕ
form_end kind guesses.Empty = cond (is_sent kind) (codes "send it again.") (codes "fetch it again.")
form_end kind guesses.Recoded = sent_as kind
form_end kind guesses.Replaced = sent_as kind
form_end kind guesses.TextLines = sent_as kind
form_end kind guess = []

unfoldable pub form_said : List ℕ → Guess → List ℕ
form_said kind guess = form_words guess ++ form_end kind guess

unfoldable pub guess_brief : List ℕ → Guess → List ℕ
guess_brief kind guess =
    cond (is_due kind (thing_of guess)) (form_said kind guess) (instead_said kind (thing_of guess))

-- ---- the whole answer

abbrev pub refused_by : Report → Fault → Guess → List ℕ
refused_by report fault guesses.Unknown = line_brief report fault
refused_by report fault guess = guess_brief report.kind.word.now guess

unfoldable pub refused_brief : Report → Fault → List ℕ
refused_brief report fault = refused_by report fault report.guess

abbrev pub brief_by : Report → Answer → List ℕ
brief_by report Der = accepted_said report.kind.word.now true report.notes.items
brief_by report (NotDer at) = accepted_said report.kind.word.now false report.notes.items
brief_by report (Refused fault) = refused_brief report fault

abbrev pub brief_said : Report → List ℕ
brief_said report = brief_by report report.answer

-- the same as a line
abbrev pub brief_line : Report → List ℕ
brief_line report = brief_said report ++ line_feed
