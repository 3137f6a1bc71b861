-- The lines of members, one after another.
use Rattle.std.proofs.Common.{◌≡◌, ℕ, ◌+◌, ◌<◌, ◌≤◌, List, [], ◌∷◌, ◌++◌, Some, None, ap, sym, ◌∙◌, arith, flat_map, length, map, take}
use Rattle.std.specs.List.{slice_get}
use Rattle.std.specs.Option.{option_map}
use Rattle.std.proofs.lemmas.List.{flat_map_more, length-map, take_all, take_more}
use Rattle.std.proofs.lemmas.Option.{get_or_from_slice_get, none-some, slice_get-get_or, slice_get-map, slice_get_within}

-- the lines of the first members, and those of the next one after them
pub next_member : {A : Type 0} (lines : A → List ℕ) (old : List ℕ) (members : List A) (i : ℕ) (member : A)
    → Some member ≡ slice_get members i
    → (old ++ flat_map lines (take i members)) ++ lines member ≡ old ++ flat_map lines (take (i + 1) members)
next_member lines old members i member e =
    let within = slice_get_within members i member (sym e) in
    flat_map_more lines old (take i members) member
    ∙ ap (λ ms. old ++ flat_map lines ms)
    (ap (λ m. take i members ++ m ∷ []) (sym (get_or_from_slice_get members i member member (sym e)))
    ∙ sym (take_more members i member within))

-- the same of members that are parts of others
pub next_part : {A B : Type 0} (part : A → B) (lines : B → List ℕ) (old : List ℕ) (members : List A) (i : ℕ)
    (member : A)
    → Some member ≡ slice_get members i
    → (old ++ flat_map lines (take i (map part members))) ++ lines (part member)
    ≡ old ++ flat_map lines (take (i + 1) (map part members))
next_part part lines old members i member e =
    next_member lines old (map part members) i (part member)
    (ap (option_map part) e ∙ sym (slice_get-map part members i))

-- all of them
pub all_members : {A : Type 0} (lines : A → List ℕ) (old : List ℕ) (members : List A) (i : ℕ) → length members ≤ i
    → old ++ flat_map lines (take i members) ≡ old ++ flat_map lines members
all_members lines old members i h = ap (λ ms. old ++ flat_map lines ms) (take_all i members h)

pub all_parts : {A B : Type 0} (part : A → B) (lines : B → List ℕ) (old : List ℕ) (members : List A) (i : ℕ)
    → length members ≤ i
    → old ++ flat_map lines (take i (map part members)) ≡ old ++ flat_map lines (map part members)
all_parts part lines old members i h =
    let n = length-map members part in all_members lines old (map part members) i (omega arith)

-- below their number there is one
pub is_member : {A : Type 0} (members : List A) (i : ℕ) → i < length members → None ≡ slice_get members i → ⊥
is_member [] i h e = absurd (omega arith)
is_member (x ∷ members) i h e = none-some _ (e ∙ slice_get-get_or (x ∷ members) i x h)
