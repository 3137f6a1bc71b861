-- What comes of a list of names, name after name.
use Rattle.std.proofs.Common.{◌≡◌, ◌∙◌, ◌++◌, All, Bool, List, [], ◌∷◌, None, Option, Some, ap, append-nil, append_assoc, cond, false, length, refl, sym, true, ℕ, ◌==◌}
use Rattle.std.proofs.lemmas.List.Elements.{All-append, All-cons, All-nil}
use Rattle.std.specs.Io.KnownBytes.{Consumes}
use Rattle.commands.specs.NameLists.{BeginsWith, IsListOf, NoneLeft, TakesNames, TakesNext, TakesOctet, known_names, names_after}

-- ---- names of such octets

-- These octets of a name came, and what is left is after them.
abbrev pub After : Option (List ℕ) → List ℕ → Option (List ℕ) → Type 0
After None name now = Unit {0}
After (Some first) name None = ⊥
After (Some first) name (Some now) = names_after [] first ≡ names_after name now

pub after_first : (first : Option (List ℕ)) → After first [] first
after_first None = tt
after_first (Some first) = refl

more_after : (name now new : List ℕ) (octet : ℕ) (b : Bool) → (octet == 0) ≡ b → b ≡ false → now ≡ octet ∷ new
    → names_after name now ≡ names_after (name ++ octet ∷ []) new
more_after name now new octet b is isnt took =
    ap (names_after name) took
    ∙ ap (λ b. cond b (name ∷ names_after [] new) (names_after (name ++ octet ∷ []) new)) (is ∙ isnt)

pub after_more : (first old new : Option (List ℕ)) (name : List ℕ) (octet : ℕ) → (octet == 0) ≡ false
    → Consumes old new (octet ∷ []) → After first name old → After first (name ++ octet ∷ []) new
after_more None old new name octet isnt took h = tt
after_more (Some first) None new name octet isnt took h = absurd h
after_more (Some first) (Some old) None name octet isnt took h = absurd took
after_more (Some first) (Some old) (Some new) name octet isnt took h =
    h ∙ more_after name old new octet (octet == 0) refl isnt took

-- an octet 0 ends the name
pub name_ends : (first old new : Option (List ℕ)) (name : List ℕ) → Consumes old new (0 ∷ []) → After first name old
    → TakesNext (known_names [] first) (known_names [] new) (Some name)
name_ends None old new name took h = tt
name_ends (Some first) None new name took h = absurd h
name_ends (Some first) (Some old) None name took h = absurd took
name_ends (Some first) (Some old) (Some new) name took h = h ∙ ap (names_after name) took

-- the end ends the last one
pub last_ends : (first old new : Option (List ℕ)) (name : List ℕ) → (length name == 0) ≡ false → TakesOctet old new None
    → After first name old → TakesNext (known_names [] first) (known_names [] new) (Some name)
last_ends None old new name some took h = tt
last_ends (Some first) None new name some took h = absurd h
last_ends (Some first) (Some old) None name some took h = absurd took.1
last_ends (Some first) (Some old) (Some new) name some took h =
    h ∙ ap (names_after name) took.0 ∙ ap (λ b. cond b [] (name ∷ [])) some
    ∙ ap (λ rest. name ∷ names_after [] rest) (sym (took.1 ∙ took.0))

pub none_after : (first old new : Option (List ℕ)) (name : List ℕ) → (length name == 0) ≡ true → TakesOctet old new None
    → After first name old → TakesNext (known_names [] first) (known_names [] new) None
none_after None old new name none took h = tt
none_after (Some first) None new name none took h = absurd h
none_after (Some first) (Some old) new name none took h =
    h ∙ ap (names_after name) took.0 ∙ ap (λ b. cond b [] (name ∷ [])) none

-- ---- the octets of a name that isn't ended

pub none_taken : (first : Option (List ℕ)) → Consumes first first []
none_taken None = tt
none_taken (Some first) = refl

pub one_more_taken : (first old new : Option (List ℕ)) (name : List ℕ) (octet : ℕ) → Consumes first old name
    → Consumes old new (octet ∷ []) → Consumes first new (name ++ octet ∷ [])
one_more_taken None old new name octet h took = tt
one_more_taken (Some first) None new name octet h took = absurd h
one_more_taken (Some first) (Some old) None name octet h took = absurd took
one_more_taken (Some first) (Some old) (Some new) name octet h took =
    h ∙ ap (λ rest. name ++ rest) took ∙ sym (append_assoc name (octet ∷ []) new)

pub none_ends : All (λ octet. (octet == 0) ≡ false) []
none_ends = All-nil (λ octet. (octet == 0) ≡ false)

pub one_more_unended : (name : List ℕ) (octet : ℕ) → All (λ one. (one == 0) ≡ false) name → (octet == 0) ≡ false
    → All (λ one. (one == 0) ≡ false) (name ++ octet ∷ [])
one_more_unended name octet h isnt =
    All-append (λ one. (one == 0) ≡ false) name (octet ∷ []) h
    (All-cons (λ one. (one == 0) ≡ false) octet [] isnt (All-nil (λ one. (one == 0) ≡ false)))

-- ---- lists of names

pub no_names : (list : Option (List (List ℕ))) → TakesNames list list []
no_names None = tt
no_names (Some list) = refl

pub names_go_on : (list left new : Option (List (List ℕ))) (names more : List (List ℕ)) → TakesNames list left names
    → TakesNames left new more → TakesNames list new (names ++ more)
names_go_on None left new names more h next = tt
names_go_on (Some list) None new names more h next = absurd h
names_go_on (Some list) (Some left) None names more h next = absurd next
names_go_on (Some list) (Some left) (Some new) names more h next =
    h ∙ ap (λ rest. names ++ rest) next ∙ sym (append_assoc names more new)

pub list_begins : (list left : Option (List (List ℕ))) (names : List (List ℕ)) → TakesNames list left names
    → BeginsWith list names
list_begins None left names h = tt
list_begins (Some list) None names h = absurd h
list_begins (Some list) (Some left) names h = (left, h)

pub list_ends : (list left : Option (List (List ℕ))) (names : List (List ℕ)) → TakesNames list left names
    → NoneLeft left → IsListOf list names
list_ends None left names h none = tt
list_ends (Some list) None names h none = absurd h
list_ends (Some list) (Some left) names h none =
    h ∙ ap (λ rest. names ++ rest) none ∙ append-nil names
