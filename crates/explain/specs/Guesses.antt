-- What a file is instead of a document of the kind asked for. A guess is made where it is refused near its start.
use Rattle.std.specs.Prelude.{Bool, List, None, Option, Some, [], codes, cond, false, nat_lt, true, ℕ, ◌&&◌, ◌||◌, ◌∷◌, ◌≡◌, ◌≢◌, ◌⊎◌}
use Rattle.std.specs.Borrow.{Bor}
use Rattle.tlv_core.specs.Limits.{Limits}
use Rattle.tlv_core.specs.declared.reason.Reason.{Reason}
use Rattle.tlv_core.specs.declared.reason.Reason.TheVariants as reasons
use Rattle.asn_names.specs.declared.element.NamedElement.{NamedElement}
use Rattle.asn_names.specs.declared.element.Mismatch.{Mismatch}
use Rattle.ber_outline.specs.Outlines.{IsOutline}
use Rattle.ber_outline.specs.declared.event.Event.{Event}
use Rattle.ber_outline.specs.declared.event.Stop.{Stop}
use Rattle.pkix_shapes.specs.declared.shape.Shape.{Shape}
use Rattle.pk_documents.specs.KindRows.{kinds, private_keys_of, type_name_of, word_of}
use Rattle.pk_documents.specs.declared.kind.Kind.{Kind}
use Rattle.pk_documents.specs.declared.kind.Kind.TheVariants as kinds_of
use Rattle.pk_documents.specs.declared.kind.PrivateKeys.{PrivateKeys}
use Rattle.pk_documents.specs.declared.kind.PrivateKeys.TheVariants as private
use Rattle.explain.specs.Fronts.{is_usual_mark, mark_of}
use Rattle.explain.specs.Heads.{guess_by_outline}
use Rattle.explain.specs.Insides.{IsNamed}
use Rattle.explain.specs.Public.{is_field}
use Rattle.explain.specs.Shapes.{IsShapeOf}
use Rattle.explain.specs.TextGuesses.{block_in, guess_by_text, has_lines, head_of, pem_guess, pem_label}
use Rattle.reports.specs.declared.report.Answer.{Answer}
use Rattle.reports.specs.declared.report.Answer.TheVariants.{Der, NotDer, Refused}
use Rattle.reports.specs.declared.report.KindWords.{KindWords}
use Rattle.reports.specs.declared.report.Guess.{Guess}
use Rattle.reports.specs.declared.report.Guess.TheVariants as guesses

-- what is no document of the kind asked for may be refused so near its start
abbrev pub is_kind_like : Reason → Bool
is_kind_like reasons.WrongTag = true
is_kind_like reasons.Version = true
is_kind_like reasons.BadTag = true
is_kind_like reasons.PastEnd = true
is_kind_like reasons.Extra = true
is_kind_like reasons.Missing = true
is_kind_like reasons.LeftOut = true
is_kind_like reasons.Truncated = true
is_kind_like reasons.TooLong = true
is_kind_like _ = false

-- the file is refused so at one of its first 64 octets
abbrev pub is_guessed : Answer → Bool
is_guessed Der = false
is_guessed (NotDer place) = false
is_guessed (Refused fault) = is_kind_like fault.why && nat_lt fault.at 64

-- no document of a kind has a private key in it
abbrev pub is_without_key : PrivateKeys → Bool
is_without_key private.None = true
is_without_key private.One = false
is_without_key private.Several = false
is_without_key private.Encrypted = false

-- a file is refused, and was taken for text on its way
abbrev pub is_of_lines : Kind → List ℕ → Answer → Bool
is_of_lines kind octets Der = false
is_of_lines kind octets (NotDer place) = false
is_of_lines kind octets (Refused fault) = is_without_key (private_keys_of kind) && has_lines octets

-- the field up to which the first elements of a kind's documents decides the kind
abbrev pub deciding_field : Kind → List ℕ
deciding_field kinds_of.Key = codes "privateKey"
deciding_field kinds_of.Ec = codes "privateKey"
deciding_field kinds_of.Request = codes "subjectPKInfo"
deciding_field kinds_of.Public = codes "subjectPublicKey"
deciding_field kinds_of.Encrypted = codes "encryptedData"
deciding_field kinds_of.Package = codes "privateKey"

-- the field of this name is there, and something usual before the first one that is; `begun` says that it was already
abbrev pub has_beginning : List ℕ → List ℕ → Bool → List NamedElement → Bool
has_beginning octets field begun [] = false
has_beginning octets field begun (element ∷ elements) =
    cond (is_field element.step field) begun
    (has_beginning octets field (begun || is_usual_mark (mark_of octets element)) elements)

-- Octets begin as a document of the kind does: its elements have their places up to the field that decides the kind.
pub record BeginsAs (limits : Limits) (octets : List ℕ) (kind : Kind) (is : Bool) : Type 0 where
  pub root : Bor Shape
  pub is_shape : IsShapeOf kind root
  pub elements : List NamedElement
  pub mismatch : Mismatch
  pub is_named : IsNamed limits octets root (elements, mismatch)
  pub answer : is ≡ has_beginning octets (deciding_field kind) false elements

abbrev pub FoundBy : Bool → Kind → Option Kind → Type 0 → Type 0
FoundBy false kind found Later = Later
FoundBy true kind found Later = found ≡ Some kind

-- It is the first of these kinds that passes a test.
abbrev pub FirstBy : (Kind → Bool → Type 0) → List Kind → Option Kind → Type 0
FirstBy Test [] found = found ≡ None
FirstBy Test (kind ∷ later) found = (is : Bool) × Test kind is × FoundBy is kind found (FirstBy Test later found)

-- It is the first of these kinds, other than the one asked for, as whose documents the octets begin.
abbrev pub IsFirst : Limits → List ℕ → Kind → List Kind → Option Kind → Type 0
IsFirst limits octets wanted [] found = found ≡ None
IsFirst limits octets wanted (kind ∷ later) found =
    ((kind ≡ wanted) × IsFirst limits octets wanted later found)
    ⊎ ((kind ≢ wanted) × (is : Bool) × BeginsAs limits octets kind is
    × FoundBy is kind found (IsFirst limits octets wanted later found))

-- a document of a kind, shown by the words of the kind; of none, shown by its first headers
abbrev pub IsDocument : Limits → List ℕ → Option Kind → Guess → Type 0
IsDocument limits octets None guess =
    (events : List Event) × (stop : Option Stop) × IsOutline limits octets events stop
    × (guess ≡ guess_by_outline octets events)
IsDocument limits octets (Some kind) guess =
    (words : KindWords) × (words.word.now ≡ word_of kind) × (words.type_name.now ≡ type_name_of kind)
    × (guess ≡ guesses.Kind words)

-- a document of another kind than the one asked for
abbrev pub IsOtherDocument : Limits → Kind → List ℕ → Guess → Type 0
IsOtherDocument limits wanted octets guess =
    (found : Option Kind) × IsFirst limits octets wanted kinds found × IsDocument limits octets found guess

abbrev pub is_unknown : Guess → Bool
is_unknown guesses.Unknown = true
is_unknown guess = false

-- PEM is shown with its label, another text as what it is.
abbrev pub IsText : Option (List ℕ) → List ℕ → Guess → Type 0
IsText (Some label) octets guess =
    (own : Bor (List ℕ)) × (own.now ≡ label)
    × (guess ≡ pem_guess own (block_in (head_of octets)) (head_of octets))
IsText None octets guess = guess ≡ guess_by_text octets

-- what a text is, where the file is refused so
abbrev pub IsTextGuess : Bool → List ℕ → Guess → Type 0
IsTextGuess false octets guess = guess ≡ guesses.Unknown
IsTextGuess true octets guess = IsText (pem_label (block_in (head_of octets))) octets guess

-- what is no text: which document it is, where it is refused so
abbrev pub IsOtherBy : Bool → Limits → Kind → List ℕ → Guess → Type 0
IsOtherBy false limits wanted octets guess = guess ≡ guesses.Unknown
IsOtherBy true limits wanted octets guess = IsOtherDocument limits wanted octets guess

-- the same, unless it was taken for text on its way
abbrev pub IsNoText : Limits → Kind → List ℕ → Answer → Guess → Type 0
IsNoText limits wanted octets answer guess =
    elim (is_of_lines wanted octets answer) [
      | true ↦ guess ≡ guesses.TextLines
      | false ↦ IsOtherBy (is_guessed answer) limits wanted octets guess
    ]

-- what the file looks like, where it looks like this text
abbrev pub IsGuessBy : Guess → Limits → Kind → List ℕ → Answer → Guess → Type 0
IsGuessBy text limits wanted octets answer guess =
    elim (is_unknown text) [
      | true ↦ IsNoText limits wanted octets answer guess
      | false ↦ guess ≡ text
    ]

-- What the file looks like, by the answer to it as a document of the kind asked for.
abbrev pub IsGuess : Limits → Kind → List ℕ → Answer → Guess → Type 0
IsGuess limits wanted octets answer guess =
    (text : Guess) × IsTextGuess (is_guessed answer) octets text
    × IsGuessBy text limits wanted octets answer guess
