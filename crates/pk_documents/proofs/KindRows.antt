-- What words and numbers mean.
use Rattle.std.proofs.Common.{arith, suc, zero, ◌≡◌, ◌↔◌, ◌≤◌, ◌||◌, ◌∷◌, ℕ, Bool, IfSome, IsSome, List, None, Option, Some, [], cond, false, length, refl, subst, sym, true}
use Rattle.std.specs.List.{list_any}
use Rattle.std.specs.Str.{bytes_eq}
use Rattle.std.proofs.lemmas.Bool.{eqb-true}
use Rattle.std.proofs.lemmas.Option.{same_Some}
use Rattle.std.proofs.lemmas.Slice.Eq.{bytes_eq-Decides}
use Rattle.pk_documents.specs.KindRows.{IsKindNumber, NumbersAreOfKinds, NumbersCount, WordsAreOfKinds, first_kind, has_number, has_word, kind_named, kind_numbered, kinds, number_of, other_words_of, word_of}
use Rattle.pk_documents.specs.declared.kind.Kind.{Kind}
use Rattle.pk_documents.specs.declared.kind.Kind.TheVariants as k

-- what is found passes the test
found : (test : Kind → Bool) (among : List Kind) (kind : Kind) → first_kind test among ≡ Some kind → test kind ≡ true
found test [] kind h = cc
found test (first ∷ later) kind h = go (test first) (found test later kind) refl h
  where
    go : (b : Bool) → (first_kind test later ≡ Some kind → test kind ≡ true) → test first ≡ b
        → cond b (Some first) (first_kind test later) ≡ Some kind → test kind ≡ true
    go true behind is h = subst (λ it. test it ≡ true) (same_Some first kind h) is
    go false behind is h = behind h

-- each of these words means the kind
abbrev AllMean : Kind → List (List ℕ) → Type 0
AllMean kind [] = Unit {0}
AllMean kind (word ∷ words) = (kind_named word ≡ Some kind) × AllMean kind words

all_mean : (kind : Kind) → AllMean kind (word_of kind ∷ other_words_of kind)
unfolding kind_named
all_mean k.Key = (refl, (refl, tt))
all_mean k.Ec = (refl, (refl, tt))
all_mean k.Request = (refl, (refl, (refl, tt)))
all_mean k.Public = (refl, (refl, tt))
all_mean k.Encrypted = (refl, tt)
all_mean k.Package = (refl, tt)

means : (kind : Kind) (words : List (List ℕ)) (word : List ℕ) → AllMean kind words
    → list_any (bytes_eq word) words ≡ true → kind_named word ≡ Some kind
means kind [] word all h = cc
means kind (first ∷ words) word all h = go (bytes_eq word first) (means kind words word all.1) refl h
  where
    go : (b : Bool) → (list_any (bytes_eq word) words ≡ true → kind_named word ≡ Some kind) → bytes_eq word first ≡ b
        → (b || list_any (bytes_eq word) words) ≡ true → kind_named word ≡ Some kind
    go true behind is h = subst (λ it. kind_named it ≡ Some kind) (sym ((bytes_eq-Decides word first).0 is)) all.0
    go false behind is h = behind h

pub words_are_of_kinds : WordsAreOfKinds
unfolding kind_named
words_are_of_kinds kind word =
    (found (has_word word) kinds kind, means kind (word_of kind ∷ other_words_of kind) word (all_mean kind))

numbered : (kind : Kind) → kind_numbered (number_of kind) ≡ Some kind
unfolding kind_numbered
numbered k.Key = refl
numbered k.Ec = refl
numbered k.Request = refl
numbered k.Public = refl
numbered k.Encrypted = refl
numbered k.Package = refl

pub numbers_are_of_kinds : NumbersAreOfKinds
unfolding kind_numbered
numbers_are_of_kinds kind number = (
  λ is. eqb-true (number_of kind) number (found (has_number number) kinds kind is),
  λ is. subst (λ it. kind_numbered it ≡ Some kind) is (numbered kind),
)

within : (kind : Kind) → (1 ≤ number_of kind) × (number_of kind ≤ length kinds)
within k.Key = (omega (arith), omega (arith))
within k.Ec = (omega (arith), omega (arith))
within k.Request = (omega (arith), omega (arith))
within k.Public = (omega (arith), omega (arith))
within k.Encrypted = (omega (arith), omega (arith))
within k.Package = (omega (arith), omega (arith))

counted : (n : ℕ) → IsSome (kind_numbered n) → (1 ≤ n) × (n ≤ length kinds)
counted n h = go (kind_numbered n) refl h
  where
    go : (it : Option Kind) → kind_numbered n ≡ it → IsSome it → (1 ≤ n) × (n ≤ length kinds)
    go None is h = cc
    go (Some kind) is h =
        subst (λ n. (1 ≤ n) × (n ≤ length kinds)) ((numbers_are_of_kinds kind n).0 is) (within kind)

none : 1 ≤ 0 → ⊥
none h = omega (arith, h)

more : (n : ℕ) → suc (suc (suc (suc (suc (suc (suc n)))))) ≤ 6 → ⊥
more n h = omega (arith, h)

there : (n : ℕ) → (1 ≤ n) × (n ≤ length kinds) → IsSome (kind_numbered n)
unfolding kind_numbered
there zero h = absurd (none h.0)
there (suc zero) h = refl
there (suc (suc zero)) h = refl
there (suc (suc (suc zero))) h = refl
there (suc (suc (suc (suc zero)))) h = refl
there (suc (suc (suc (suc (suc zero))))) h = refl
there (suc (suc (suc (suc (suc (suc zero)))))) h = refl
there (suc (suc (suc (suc (suc (suc (suc n))))))) h = absurd (more n h.1)

pub numbers_count : NumbersCount
numbers_count number = (counted number, there number)

-- the kind that was found by its number
pub has_its_number : (found : Option Kind) (number : ℕ) → found ≡ kind_numbered number
    → IfSome found (λ kind. number_of kind ≡ number)
has_its_number None number is = tt
has_its_number (Some kind) number is = (numbers_are_of_kinds kind number).0 (sym is)

pub is_found_exactly : (found : Option Kind) (number : ℕ) → found ≡ kind_numbered number
    → IsSome found ↔ IsKindNumber number
is_found_exactly found number is = subst (λ it. IsSome it ↔ IsKindNumber number) (sym is) (numbers_count number)
