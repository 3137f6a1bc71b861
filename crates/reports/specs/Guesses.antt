-- What a file looks like that isn't what was asked for, and what to do with it.
use Rattle.std.specs.Prelude.{Bool, List, [], codes, cond, false, length, true, ℕ, ◌&&◌, ◌++◌, ◌==◌, ◌||◌, ◌∷◌}
use Rattle.std.specs.Str.{bytes_eq}
use Rattle.reports.specs.declared.report.Guess.{Guess}
use Rattle.reports.specs.declared.report.Guess.TheVariants as guesses

-- labels of private keys that are of no kind
abbrev pub private_labels : List (List ℕ)
private_labels =
    codes "RSA PRIVATE KEY" ∷ codes "DSA PRIVATE KEY" ∷ codes "OPENSSH PRIVATE KEY" ∷ codes "SM2 PRIVATE KEY" ∷ []

-- labels of certificates
abbrev pub certificate_labels : List (List ℕ)
certificate_labels =
    codes "CERTIFICATE" ∷ codes "X509 CERTIFICATE" ∷ codes "TRUSTED CERTIFICATE" ∷ []

-- the label of RSAPublicKey (RFC 8017 A.1.1)
abbrev pub public_labels : List (List ℕ)
public_labels = codes "RSA PUBLIC KEY" ∷ []

-- labels of what pkder doesn't read, and nothing makes a kind of
abbrev pub unread_labels : List (List ℕ)
unread_labels =
    codes "X509 CRL" ∷ codes "PKCS7" ∷ codes "CMS" ∷ codes "ATTRIBUTE CERTIFICATE" ∷ codes "EC PARAMETERS"
    ∷ codes "DH PARAMETERS" ∷ codes "DSA PARAMETERS" ∷ codes "TSS2 PRIVATE KEY" ∷ codes "PGP PRIVATE KEY BLOCK"
    ∷ codes "PGP PUBLIC KEY BLOCK" ∷ codes "PGP MESSAGE" ∷ []

-- the label is one of these
abbrev pub is_among : List (List ℕ) → List ℕ → Bool
is_among [] label = false
is_among (first ∷ later) label = bytes_eq first label || is_among later label

-- the label of PEM, where it is a usual one
abbrev pub labelled : List ℕ → List ℕ
labelled label =
    cond (length label == 0) (codes "this is PEM, with a label that isn't a usual one")
    (codes "this is PEM, labelled ")

abbrev pub labelled_behind : List ℕ → List ℕ
labelled_behind label =
    cond (length label == 0) (codes "this is PEM behind other text, with a label that isn't a usual one")
    (codes "this is PEM behind other text, labelled ")

-- what the file looks like, but for the label or the kind
unfoldable pub guess_words : Guess → List ℕ
guess_words guesses.Unknown = []
guess_words guesses.Empty = codes "the file is empty"
guess_words (guesses.Pem label) = labelled label.now
guess_words (guesses.PemBehind label) = labelled_behind label.now
guess_words (guesses.EncryptedPem label) = codes "this is PEM, encrypted in an old form"
guess_words (guesses.Kind kind) = codes "this is a document of kind "
guess_words guesses.RsaPrivateKey = codes "this is an RSAPrivateKey (PKCS #1)"
guess_words guesses.RsaPublicKey = codes "this is an RSAPublicKey (PKCS #1)"
guess_words guesses.DsaPrivateKey = codes "this is a DSA private key in its old form"
guess_words guesses.Certificate = codes "this is a certificate"
guess_words guesses.Pkcs12 = codes "this is a PKCS #12 file"
guess_words guesses.Hexadecimal = codes "this is hexadecimal"
guess_words guesses.Base64 = codes "this is base64"
guess_words guesses.Dump = codes "this is a dump by xxd"
guess_words guesses.Utf16 = codes "this is a text in UTF-16"
guess_words guesses.Markup = codes "this is HTML or XML"
guess_words guesses.Json = codes "this is JSON"
guess_words guesses.PrivateJwk = codes "this is a private key as JSON has it (JWK)"
guess_words guesses.PublicJwk = codes "this is a public key as JSON has it (JWK)"
guess_words guesses.PrivateRsaXml = codes "this is a private key of RSA in XML"
guess_words guesses.PublicRsaXml = codes "this is a public key of RSA in XML"
guess_words guesses.JavaKeyStore = codes "this is a key store of Java (JKS or JCEKS)"
guess_words guesses.OpenSshKey = codes "this is a private key in OpenSSH's own format"
guess_words guesses.SshPublicKey = codes "this is a public key as SSH has it"
guess_words guesses.PuttyKey = codes "this is a private key of PuTTY or ssh.com"
guess_words guesses.Ssh2PublicKey = codes "this is a public key in lines of SSH2 (RFC 4716)"
guess_words guesses.Recoded = codes "octets that were taken for text: those from 80 on were written as UTF-8"
guess_words guesses.Replaced = codes "octets that were taken for text: those from 80 on are lost"
guess_words guesses.TextLines = codes "octets that were taken for text: before each 0a stands a 0d"

-- the label of PEM, or the word of a kind
unfoldable pub guess_name : Guess → List ℕ
guess_name (guesses.Pem label) = label.now
guess_name (guesses.PemBehind label) = label.now
guess_name (guesses.Kind kind) = kind.word.now
guess_name guess = []

-- what the file looks like
unfoldable pub guess_said : Guess → List ℕ
guess_said guess = guess_words guess ++ guess_name guess

-- a request is wanted
abbrev pub is_request : List ℕ → Bool
is_request kind = bytes_eq kind (codes "request")

-- a request is wanted, and the kind has private keys as they are
abbrev pub is_lost_kind : List ℕ → List ℕ → Bool
is_lost_kind kind other =
    is_request kind
    && (bytes_eq other (codes "key") || bytes_eq other (codes "ec") || bytes_eq other (codes "package"))

-- the same by the label of PEM
abbrev pub is_lost_label : List ℕ → List ℕ → Bool
is_lost_label kind label =
    is_request kind
    && (bytes_eq label (codes "PRIVATE KEY") || bytes_eq label (codes "EC PRIVATE KEY") || is_among private_labels label)

-- where a private key came in place of a request, what that means; else this
abbrev pub lost_or : Bool → List ℕ → List ℕ
lost_or is_lost act =
    cond is_lost
    (codes "this is a private key, and no request. A key that was sent counts as lost: make a new one, "
    ++ codes "and send the request of that")
    act

-- with a private key that is of no kind
abbrev pub private_act : List ℕ → List ℕ
private_act label =
    cond (bytes_eq label (codes "OPENSSH PRIVATE KEY"))
    (codes "ssh-keygen -p -m PKCS8 -f COPY writes PEM of kind key over the copy, of RSA and ECDSA keys; "
    ++ codes "of Ed25519 keys the manual's from_openssh writes kind key")
    (cond (bytes_eq label (codes "SM2 PRIVATE KEY"))
    (codes "decode its base64, as the manual says under Getting the octets, and read it with --kind ec")
    (codes "openssl pkcs8 -topk8 -nocrypt -in FILE -outform DER makes it kind key"))

abbrev pub certificate_act : List ℕ → List ℕ
certificate_act kind =
    cond (is_request kind) (codes "send the request that it was made of")
    (codes "openssl x509 -in FILE -noout -pubkey writes its public key, in PEM")

-- what to do with PEM of this label
abbrev pub pem_act : List ℕ → List ℕ → List ℕ
pem_act kind label =
    cond (is_lost_label kind label) (lost_or true [])
    (cond (is_among private_labels label) (private_act label)
    (cond (is_among certificate_labels label) (certificate_act kind)
    (cond (is_among public_labels label)
    (codes "openssl rsa -RSAPublicKey_in -in FILE -pubout -outform DER makes it kind public")
    (cond (is_among unread_labels label) (codes "pkder reads no documents of this label")
    (cond (length label == 0) (codes "decode its base64, as the manual says under Getting the octets, and try each kind")
    (codes "decode its base64, as the manual says under Getting the octets"))))))

-- with a private key of another form
unfoldable pub key_act : Guess → List ℕ
key_act guesses.RsaPrivateKey =
    codes "openssl pkcs8 -topk8 -nocrypt -inform DER -in FILE -outform DER makes it PKCS #8"
key_act guesses.DsaPrivateKey =
    codes "openssl pkcs8 -topk8 -nocrypt -inform DER -in FILE -outform DER makes it PKCS #8"
key_act guesses.PrivateJwk =
    codes "node -p 'crypto.createPrivateKey({key: JSON.parse(fs.readFileSync(\"FILE\")), format: \"jwk\"})"
    ++ codes ".export({type: \"pkcs8\", format: \"pem\"})' writes it in PEM; jq '.keys[0]' FILE writes "
    ++ codes "the first of a set of them"
key_act guesses.PrivateRsaXml = codes "have it written in PEM by a program that reads this form, as .NET and phpseclib do"
key_act guesses.OpenSshKey = codes "take the file that begins with -----BEGIN"
key_act guesses.PuttyKey =
    codes "puttygen FILE -O private-openssh -o NEW writes it in PEM; go on by the first line of that"
key_act guess = []

-- what goes by what the file looks like alone
unfoldable pub form_act : Guess → List ℕ
form_act guesses.Empty = codes "fetch it again"
form_act guesses.RsaPublicKey =
    codes "openssl rsa -RSAPublicKey_in -inform DER -in FILE -pubout -outform DER makes it kind public"
form_act guesses.Certificate = codes "openssl x509 -inform DER -in FILE -pubkey -noout writes its public key"
form_act guesses.Pkcs12 =
    codes "openssl pkcs12 -nodes -nocerts -in FILE writes its private key, with -legacy that of an old file"
form_act guesses.Hexadecimal = codes "xxd -r -p FILE writes its octets"
form_act guesses.Dump = codes "xxd -r FILE writes its octets"
form_act guesses.Base64 =
    codes "tr _- /+ < FILE | base64 -d writes its octets; where padding is left out, as base64url does, "
    ++ codes "it ends with 'invalid input' after them"
form_act guesses.Utf16 = codes "iconv -f UTF-16 -t UTF-8 FILE writes it in UTF-8; read that"
form_act guesses.Markup = codes "fetch the file itself: this is a page, often one of an error or a login"
form_act guesses.Json = codes "jq -r .NAME FILE writes the text of a field: take the one that has the document"
form_act guesses.JavaKeyStore =
    codes "keytool -importkeystore -srckeystore FILE -destkeystore NEW -deststoretype PKCS12 makes it PKCS #12"
form_act guesses.PublicJwk =
    codes "node -p 'crypto.createPublicKey({key: JSON.parse(fs.readFileSync(\"FILE\")), format: \"jwk\"})"
    ++ codes ".export({type: \"spki\", format: \"pem\"})' writes it in PEM; jq '.keys[0]' FILE writes "
    ++ codes "the first of a set of them"
form_act guesses.PublicRsaXml = codes "have it written in PEM by a program that reads this form, as .NET and phpseclib do"
form_act guesses.SshPublicKey =
    codes "ssh-keygen -e -m PKCS8 -f FILE writes PEM of kind public, of RSA, DSA and ECDSA keys; of Ed25519 keys the "
    ++ codes "manual's from_ssh writes kind public"
form_act guesses.Ssh2PublicKey = codes "ssh-keygen -i -f FILE > NEW writes it in a line as SSH has it; go on with that"
form_act guesses.Recoded =
    codes "fetch it again, as binary or in PEM; iconv -f UTF-8 -t LATIN1 FILE gives the octets back, where "
    ++ codes "nothing else was done to them"
form_act guesses.Replaced = codes "fetch it again, as binary or in PEM"
form_act guesses.TextLines = codes "fetch it again, as binary or in PEM"
form_act guess = []

-- but for PEM and other kinds
unfoldable pub other_act : List ℕ → Guess → List ℕ
other_act kind guesses.RsaPrivateKey = lost_or (is_request kind) (key_act guesses.RsaPrivateKey)
other_act kind guesses.DsaPrivateKey = lost_or (is_request kind) (key_act guesses.DsaPrivateKey)
other_act kind guesses.PrivateJwk = lost_or (is_request kind) (key_act guesses.PrivateJwk)
other_act kind guesses.PrivateRsaXml = lost_or (is_request kind) (key_act guesses.PrivateRsaXml)
other_act kind guesses.OpenSshKey = lost_or (is_request kind) (key_act guesses.OpenSshKey)
other_act kind guesses.PuttyKey = lost_or (is_request kind) (key_act guesses.PuttyKey)
other_act kind guess = form_act guess

-- a certificate in DER in place of a request, and others
abbrev pub der_act : List ℕ → Guess → List ℕ
der_act kind guesses.Certificate =
    cond (is_request kind) (codes "send the request that it was made of") (other_act kind guesses.Certificate)
der_act kind guess = other_act kind guess

-- what to do with a file that looks so, where a document of this kind was wanted; but for the word of another kind
abbrev pub act_words : List ℕ → Guess → List ℕ
act_words kind (guesses.Pem label) = pem_act kind label.now
act_words kind (guesses.PemBehind label) = pem_act kind label.now
act_words kind (guesses.EncryptedPem label) =
    lost_or (is_lost_label kind label.now)
    (codes "openssl pkcs8 -topk8 -in FILE -outform DER asks for its password, and makes it kind encrypted")
act_words kind (guesses.Kind other) = lost_or (is_lost_kind kind other.word.now) (codes "read it with --kind ")
act_words kind guess = der_act kind guess

-- the word of another kind, which it is to be read as
abbrev pub act_name : List ℕ → Guess → List ℕ
act_name kind (guesses.Kind other) = cond (is_lost_kind kind other.word.now) [] other.word.now
act_name kind guess = []

unfoldable pub guess_act : List ℕ → Guess → List ℕ
guess_act kind guess = act_words kind guess ++ act_name kind guess
