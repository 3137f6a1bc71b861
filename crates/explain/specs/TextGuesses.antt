-- What a file is whose octets stand for others, or were taken for a text: by how they begin.
use Rattle.std.specs.Prelude.{Bool, List, None, Option, Some, [], codes, cond, drop, false, length, nat_le, not, take, true, ℕ, ◌&&◌, ◌==◌, ◌||◌, ◌∷◌}
use Rattle.std.specs.Borrow.{Bor}
use Rattle.std.specs.List.{list_all}
use Rattle.std.specs.Str.{bytes_eq}
use Rattle.pk_documents.specs.KindRows.{kinds, labels_of}
use Rattle.pk_documents.specs.declared.kind.Kind.{Kind}
use Rattle.reports.specs.Guesses.{certificate_labels, is_among, private_labels, public_labels, unread_labels}
use Rattle.reports.specs.declared.report.Guess.{Guess}
use Rattle.reports.specs.declared.report.Guess.TheVariants as guesses

-- octets begin with these
abbrev pub begin_with : List ℕ → List ℕ → Bool
begin_with prefix octets = bytes_eq (take (length prefix) octets) prefix

-- the text begins with the label, and five hyphens follow it
abbrev pub is_labelled : List ℕ → List ℕ → Bool
is_labelled label text = begin_with label text && begin_with (codes "-----") (drop (length label) text)

-- the first of these labels with which the text begins, empty where it begins with none
abbrev pub label_among : List (List ℕ) → List ℕ → List ℕ
label_among [] text = []
label_among (label ∷ later) text = cond (is_labelled label text) label (label_among later text)

-- a label that was found, or else another one
abbrev pub or_label : List ℕ → List ℕ → List ℕ
or_label [] other = other
or_label (octet ∷ octets) other = octet ∷ octets

-- the label with which the text begins, of what is of no kind
abbrev pub other_label : List ℕ → List ℕ
other_label text =
    or_label
    (or_label (or_label (label_among private_labels text) (label_among certificate_labels text))
    (label_among public_labels text))
    (label_among unread_labels text)

-- the label with which the text begins, of these kinds or else of what is of no kind
abbrev pub label_of : List Kind → List ℕ → List ℕ
label_of [] text = other_label text
label_of (kind ∷ later) text = or_label (label_among (labels_of kind) text) (label_of later text)

-- the octet is one of these two or between them
abbrev pub is_within : ℕ → ℕ → ℕ → Bool
is_within first last octet = nat_le first octet && nat_le octet last

-- a space, tab, carriage return or line feed
abbrev pub is_blank : ℕ → Bool
is_blank octet = (octet == 32) || (octet == 9) || (octet == 13) || (octet == 10)

abbrev pub without_blanks : List ℕ → List ℕ
without_blanks [] = []
without_blanks (octet ∷ octets) = cond (is_blank octet) (without_blanks octets) (octet ∷ octets)

-- a text without a byte order mark (RFC 3629 section 6) and blanks before it
abbrev pub text_in : List ℕ → List ℕ
text_in octets = without_blanks (cond (begin_with (239 ∷ 187 ∷ 191 ∷ []) octets) (drop 3 octets) octets)

-- the label of a PEM text, which comes after 11 octets (RFC 7468 section 3)
abbrev pub pem_label : List ℕ → Option (List ℕ)
pem_label text = cond (begin_with (codes "-----BEGIN ") text) (Some (label_of kinds (drop 11 text))) None

-- the text in a file, up to 16,384 octets of it
unfoldable pub head_of : List ℕ → List ℕ
head_of octets = take 16384 (text_in octets)

-- PEM of this label leads to a document of a kind: it is none of a certificate, nor of what pkder doesn't read
abbrev pub is_of_use : List ℕ → Bool
is_of_use label =
    not (length label == 0) && not (is_among certificate_labels label) && not (is_among unread_labels label)

-- a PEM text of any label, or of one that is of use
abbrev pub is_label_due : Bool → Option (List ℕ) → Bool
is_label_due any None = false
is_label_due any (Some label) = any || is_of_use label

unfoldable pub is_block : Bool → List ℕ → Bool
is_block any text = is_label_due any (pem_label text)

-- after this octet a line begins, or goes on with blanks alone
unfoldable pub is_new_after : Bool → ℕ → Bool
is_new_after new octet = (octet == 10) || (octet == 13) || (new && is_blank octet)

-- from the first such PEM text at the beginning of a line on, but for blanks; `new` says that a line begins here
abbrev pub block_from : Bool → Bool → List ℕ → List ℕ
block_from any new [] = []
block_from any new (octet ∷ octets) =
    cond (new && is_block any (octet ∷ octets)) (octet ∷ octets)
    (block_from any (is_new_after new octet) octets)

-- of several PEM texts the first whose label is of use, else the first
abbrev pub block_in : List ℕ → List ℕ
block_in text =
    cond (length (block_from false true text) == 0) (block_from true true text) (block_from false true text)

abbrev pub after_line : List ℕ → List ℕ
after_line [] = []
after_line (octet ∷ octets) = cond (octet == 10) octets (after_line octets)

-- the second line of a PEM text says that it is encrypted (RFC 1421 section 4.6.1.1)
abbrev pub is_encrypted : List ℕ → Bool
is_encrypted text = begin_with (codes "Proc-Type:") (after_line text)

-- PEM with this label from there on, encrypted or in the clear, at the start of a text or behind what isn't of use
abbrev pub pem_guess : Bor (List ℕ) → List ℕ → List ℕ → Guess
pem_guess label block text =
    cond (is_encrypted block) (guesses.EncryptedPem label)
    (cond (length block == length text) (guesses.Pem label) (guesses.PemBehind label))

-- 0 to 9, A to F, a to f; a colon or a blank between them
abbrev pub is_hexadecimal : ℕ → Bool
is_hexadecimal octet =
    is_within 48 57 octet || is_within 65 70 octet || is_within 97 102 octet || (octet == 58) || is_blank octet

-- A to Z, a to z, 0 to 9, + and /, of base64url - and _, the padding = (RFC 4648 sections 4, 5); a blank between them
abbrev pub is_base64 : ℕ → Bool
is_base64 octet =
    is_within 65 90 octet || is_within 97 122 octet || is_within 48 57 octet || (octet == 43) || (octet == 47)
    || (octet == 45) || (octet == 95) || (octet == 61) || is_blank octet

-- a letter, figure or sign of ASCII, or a blank
abbrev pub is_printable : ℕ → Bool
is_printable octet = is_within 32 126 octet || is_blank octet

-- the text begins with this sign, and its first 16 octets are printable
abbrev pub is_text_from : ℕ → List ℕ → Bool
is_text_from sign text = begin_with (sign ∷ []) text && list_all is_printable (take 16 text)

-- each second octet is 00, of which the first is due or not
abbrev pub has_zeros : Bool → List ℕ → Bool
has_zeros is_due [] = true
has_zeros is_due (octet ∷ octets) = (not is_due || (octet == 0)) && has_zeros (not is_due) octets

-- a text in UTF-16, whose first signs are in ASCII: a byte order mark, and 00 after or before each of them
abbrev pub is_utf16 : List ℕ → Bool
is_utf16 octets =
    nat_le 8 (length octets)
    && ((begin_with (255 ∷ 254 ∷ []) octets && has_zeros false (take 14 (drop 2 octets)))
    || (begin_with (254 ∷ 255 ∷ []) octets && has_zeros true (take 14 (drop 2 octets))))

-- the magic numbers of JKS and JCEKS
abbrev pub is_key_store : List ℕ → Bool
is_key_store octets =
    begin_with (254 ∷ 237 ∷ 254 ∷ 237 ∷ []) octets || begin_with (206 ∷ 206 ∷ 206 ∷ 206 ∷ []) octets

-- a public key in a line (RFC 4253 section 6.6, RFC 5656 section 3.1, RFC 8709 section 4)
abbrev pub is_ssh_key : List ℕ → Bool
is_ssh_key octets =
    begin_with (codes "ssh-rsa AAAA") octets || begin_with (codes "ssh-dss AAAA") octets
    || begin_with (codes "ssh-ed25519 AAAA") octets || begin_with (codes "ecdsa-sha2-nistp") octets

-- a private key of PuTTY, or of ssh.com
abbrev pub is_putty_key : List ℕ → Bool
is_putty_key octets =
    begin_with (codes "PuTTY-User-Key-File-") octets
    || begin_with (codes "---- BEGIN SSH2 ENCRYPTED PRIVATE KEY") octets

-- the header of a SEQUENCE whose first length octet was written as UTF-8 has it
abbrev pub is_recoded : List ℕ → Bool
is_recoded octets =
    begin_with (48 ∷ 194 ∷ 129 ∷ []) octets || begin_with (48 ∷ 194 ∷ 130 ∷ []) octets
    || begin_with (48 ∷ 194 ∷ 131 ∷ []) octets

-- the same where that octet is lost (U+FFFD)
abbrev pub replaced_header : List ℕ
replaced_header = 48 ∷ 239 ∷ 191 ∷ 189 ∷ []

-- the word stands somewhere in the text
abbrev pub has_word : List ℕ → List ℕ → Bool
has_word word [] = false
has_word word (octet ∷ octets) = cond (begin_with word (octet ∷ octets)) true (has_word word octets)

-- HTML or XML: an RSA key, private where it has a private exponent (XML Signature section 4.5.2.2), or another text
abbrev pub markup_guess : List ℕ → Guess
markup_guess text =
    cond (has_word (codes "<RSAKey") text)
    (cond (has_word (codes "<D>") text) guesses.PrivateRsaXml guesses.PublicRsaXml) guesses.Markup

-- JSON: a JWK, private where it has a member d (RFC 7517 section 4.1, RFC 7518 section 6), or another text
abbrev pub json_guess : List ℕ → Guess
json_guess text =
    cond (has_word (codes "\"kty\"") text)
    (cond (has_word (codes "\"d\"") text) guesses.PrivateJwk guesses.PublicJwk) guesses.Json

-- by the first sign of a text
abbrev pub guess_by_sign : List ℕ → Guess
guess_by_sign text =
    cond (is_text_from 60 text) (markup_guess text)
    (cond (is_text_from 123 text) (json_guess text) guesses.Unknown)

-- by octets that nothing else begins with
unfoldable pub guess_by_beginning : List ℕ → Guess
guess_by_beginning octets =
    cond (is_utf16 octets) guesses.Utf16
    (cond (is_key_store octets) guesses.JavaKeyStore
    (cond (begin_with (codes "openssh-key-v1") octets) guesses.OpenSshKey
    (cond (is_ssh_key octets) guesses.SshPublicKey
    (cond (is_putty_key octets) guesses.PuttyKey
    (cond (begin_with (codes "---- BEGIN SSH2 PUBLIC KEY") octets) guesses.Ssh2PublicKey
    (cond (is_recoded octets) guesses.Recoded
    (cond (begin_with replaced_header octets) guesses.Replaced (guess_by_sign (head_of octets)))))))))

-- by the first 16 octets; the base64 of a SEQUENCE begins with M
abbrev pub guess_by_letters : List ℕ → Guess
guess_by_letters octets =
    cond (list_all is_hexadecimal (take 16 octets)) guesses.Hexadecimal
    (cond (begin_with (codes "M") octets && list_all is_base64 (take 16 octets)) guesses.Base64
    (guess_by_beginning octets))

-- a file that isn't PEM
unfoldable pub guess_by_text : List ℕ → Guess
guess_by_text octets =
    cond (length octets == 0) guesses.Empty
    (cond (begin_with (codes "00000000: ") octets) guesses.Dump (guess_by_letters octets))

-- before each line feed stands a carriage return, and there are two line feeds or more; `previous` is the octet before,
-- one line feed came or two did
abbrev pub has_lines_from : ℕ → Bool → Bool → List ℕ → Bool
has_lines_from previous one two [] = two
has_lines_from previous one two (octet ∷ octets) =
    cond (octet == 10) (cond (previous == 13) (has_lines_from octet true one octets) false)
    (has_lines_from octet one two octets)

abbrev pub has_lines : List ℕ → Bool
has_lines octets = has_lines_from 0 false false octets
