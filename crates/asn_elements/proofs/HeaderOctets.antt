-- Octets of a header and of the contents after it.
use Rattle.std.proofs.Common.{◌≡◌, ◌∙◌, ◌+◌, ◌-◌, ◌<◌, ◌≤◌, ℕ, zero, suc, List, [], ◌∷◌, ◌++◌, refl, ap, length, slice_get, arith, Some}

pub get_after : (xs ys : List ℕ) (i : ℕ) → length xs ≤ i → slice_get (xs ++ ys) i ≡ slice_get ys (i - length xs)
get_after [] ys i h = ap (slice_get ys) (let e : i ≡ i - 0 = omega arith in e)
get_after (x ∷ xs) ys zero h = absurd (omega arith)
get_after (x ∷ xs) ys (suc i) h =
    get_after xs ys i (omega arith)
    ∙ ap (slice_get ys) (let e : i - length xs ≡ suc i - suc (length xs) = omega arith in e)

pub get_before : (xs ys : List ℕ) (i : ℕ) → i < length xs → slice_get (xs ++ ys) i ≡ slice_get xs i
get_before [] ys i h = absurd (omega arith)
get_before (x ∷ xs) ys zero h = refl
get_before (x ∷ xs) ys (suc i) h = get_before xs ys i (omega arith)

-- an octet that stands in the header, or in the contents after it
pub get_framed : (h cs : List ℕ) (i at : ℕ) → length h + at ≡ i → slice_get (h ++ cs) i ≡ slice_get cs at
get_framed h cs i at e =
    get_after h cs i (omega arith) ∙ ap (slice_get cs) (let d : i - length h ≡ at = omega arith in d)

pub get_header : (h cs : List ℕ) (i x : ℕ) → slice_get h i ≡ Some x → slice_get (h ++ cs) i ≡ Some x
get_header [] cs i x e = cc
get_header (y ∷ h) cs zero x e = e
get_header (y ∷ h) cs (suc i) x e = get_header h cs i x e
