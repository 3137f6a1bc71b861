-- The table of kinds: what each is called, and what words and numbers mean.
use Rattle.std.specs.Prelude.{Bool, IsSome, List, None, Option, Some, [], codes, cond, false, length, map, true, ℕ, ◌++◌, ◌==◌, ◌||◌, ◌∷◌, ◌≡◌, ◌↔◌, ◌≤◌}
use Rattle.std.specs.Borrow.{Bor}
use Rattle.std.specs.List.{filter, list_any}
use Rattle.std.specs.Str.{bytes_eq}
use Rattle.pk_documents.specs.declared.kind.Kind.{Kind}
use Rattle.pk_documents.specs.declared.kind.Kind.TheVariants.{Ec, Encrypted, Key, Package, Public, Request}
use Rattle.pk_documents.specs.declared.kind.PrivateKeys.{PrivateKeys}
use Rattle.pk_documents.specs.declared.kind.PrivateKeys.TheVariants as private
use Rattle.pk_documents.specs.declared.kind.TheConstants.{KEY_WORDS, WORDS}

-- What a kind is called: the word of the command line and others that mean it there, the number for C, the labels of PEM
-- files (RFC 7468), the name of the type and the standard that has it; and the private keys of its documents.
pub record Row : Type 0 where
  pub word : List ℕ
  pub other_words : List (List ℕ)
  pub number : ℕ
  pub labels : List (List ℕ)
  pub type_name : List ℕ
  pub standard : List ℕ
  pub private_keys : PrivateKeys

-- the table
abbrev pub row_of : Kind → Row
row_of Key = record {
  word = codes "key";
  other_words = codes "pkcs8" ∷ [];
  number = 1;
  labels = codes "PRIVATE KEY" ∷ [];
  type_name = codes "OneAsymmetricKey";
  standard = codes "RFC 5958 section 2";
  private_keys = private.One;
}
row_of Ec = record {
  word = codes "ec";
  other_words = codes "sec1" ∷ [];
  number = 2;
  labels = codes "EC PRIVATE KEY" ∷ [];
  type_name = codes "ECPrivateKey";
  standard = codes "RFC 5915 section 3";
  private_keys = private.One;
}
row_of Request = record {
  word = codes "request";
  other_words = codes "csr" ∷ codes "pkcs10" ∷ [];
  number = 3;
  labels = codes "CERTIFICATE REQUEST" ∷ codes "NEW CERTIFICATE REQUEST" ∷ [];
  type_name = codes "CertificationRequest";
  standard = codes "RFC 2986 section 4";
  private_keys = private.None;
}
row_of Public = record {
  word = codes "public";
  other_words = codes "spki" ∷ [];
  number = 4;
  labels = codes "PUBLIC KEY" ∷ [];
  type_name = codes "SubjectPublicKeyInfo";
  standard = codes "RFC 5280 section 4.1";
  private_keys = private.None;
}
row_of Encrypted = record {
  word = codes "encrypted";
  other_words = [];
  number = 5;
  labels = codes "ENCRYPTED PRIVATE KEY" ∷ [];
  type_name = codes "EncryptedPrivateKeyInfo";
  standard = codes "RFC 5958 section 3";
  private_keys = private.Encrypted;
}
row_of Package = record {
  word = codes "package";
  other_words = [];
  number = 6;
  labels = [];
  type_name = codes "AsymmetricKeyPackage";
  standard = codes "RFC 5958 section 2";
  private_keys = private.Several;
}

-- all kinds, in the order of the table
abbrev pub kinds : List Kind
kinds = Key ∷ Ec ∷ Request ∷ Public ∷ Encrypted ∷ Package ∷ []

-- texts that the source borrows
abbrev pub texts : List (Bor (List ℕ)) → List (List ℕ)
texts given = map (λ text. text.now) given

abbrev pub word_of : Kind → List ℕ
word_of kind = (row_of kind).word

abbrev pub other_words_of : Kind → List (List ℕ)
other_words_of kind = (row_of kind).other_words

abbrev pub number_of : Kind → ℕ
number_of kind = (row_of kind).number

abbrev pub labels_of : Kind → List (List ℕ)
labels_of kind = (row_of kind).labels

abbrev pub type_name_of : Kind → List ℕ
type_name_of kind = (row_of kind).type_name

abbrev pub standard_of : Kind → List ℕ
standard_of kind = (row_of kind).standard

abbrev pub private_keys_of : Kind → PrivateKeys
private_keys_of kind = (row_of kind).private_keys

-- a document of the kind is one private key
abbrev pub is_one : PrivateKeys → Bool
is_one private.One = true
is_one _ = false

abbrev pub is_key : Kind → Bool
is_key kind = is_one (private_keys_of kind)

-- private keys stand in documents of the kind as they are
abbrev pub are_plain : PrivateKeys → Bool
are_plain private.One = true
are_plain private.Several = true
are_plain _ = false

abbrev pub has_plain_keys : Kind → Bool
has_plain_keys kind = are_plain (private_keys_of kind)

-- a private key may be in a document of the kind, in plain or encrypted
abbrev pub are_any : PrivateKeys → Bool
are_any private.None = false
are_any _ = true

abbrev pub may_be_private : Kind → Bool
may_be_private kind = are_any (private_keys_of kind)

-- the kind has this word, as its own or as another one
abbrev pub has_word : List ℕ → Kind → Bool
has_word word kind = bytes_eq word (word_of kind) || list_any (bytes_eq word) (other_words_of kind)

abbrev pub has_number : ℕ → Kind → Bool
has_number number kind = number_of kind == number

-- the first of these kinds that passes a test
abbrev pub first_kind : (Kind → Bool) → List Kind → Option Kind
first_kind test [] = None
first_kind test (kind ∷ later) = cond (test kind) (Some kind) (first_kind test later)

-- the kind that a word means, and the one that a number means
unfoldable pub kind_named : List ℕ → Option Kind
kind_named word = first_kind (has_word word) kinds

unfoldable pub kind_numbered : ℕ → Option Kind
kind_numbered number = first_kind (has_number number) kinds

-- A word means the kind that has it, and so no kind has a word of another one.
abbrev pub WordsAreOfKinds : Type 0
WordsAreOfKinds = (kind : Kind) (word : List ℕ) → (kind_named word ≡ Some kind) ↔ (has_word word kind ≡ true)

-- A number means the kind whose number it is, and so no two kinds have one number.
abbrev pub NumbersAreOfKinds : Type 0
NumbersAreOfKinds = (kind : Kind) (number : ℕ) → (kind_numbered number ≡ Some kind) ↔ (number_of kind ≡ number)

-- Numbers of kinds count them, from 1 on.
abbrev pub IsKindNumber : ℕ → Type 0
IsKindNumber number = (1 ≤ number) × (number ≤ length kinds)

abbrev pub NumbersCount : Type 0
NumbersCount = (number : ℕ) → IsSome (kind_numbered number) ↔ IsKindNumber number

-- Words as a text: "a, b or c".
abbrev pub listed : List (List ℕ) → List ℕ
listed [] = []
listed (word ∷ []) = word
listed (word ∷ last ∷ []) = word ++ codes " or " ++ last
listed (word ∷ next ∷ last ∷ later) = word ++ codes ", " ++ listed (next ∷ last ∷ later)

-- The texts of the source that list words have those of the table, in its order.
abbrev pub WordsAreListed : Type 0
WordsAreListed = (WORDS.now ≡ listed (map word_of kinds)) × (KEY_WORDS.now ≡ listed (map word_of (filter is_key kinds)))
