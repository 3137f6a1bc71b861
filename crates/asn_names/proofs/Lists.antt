-- Lists whose last member comes first.
use Rattle.std.proofs.Common.{List, [], ◌≡◌, ◌++◌, ◌∷◌, reverse}
use Rattle.std.proofs.lemmas.List.{reverse-append}

-- the last member comes first
pub reverse_last : {A : Type 0} (members : List A) (last : A) → reverse (members ++ last ∷ []) ≡ last ∷ reverse members
reverse_last members last = reverse-append members (last ∷ [])
