-- Relations and tests on lists that the definitions share.
use Rattle.std.specs.Prelude.{Bool, List, [], false, true, ℕ, ◌&&◌, ◌++◌, ◌==◌, ◌||◌, ◌∷◌, ◌≡◌, ◌⊎◌}

-- The member stands in the list, and `rest` is what remains of the list without it.
abbrev pub Picked : {A : Type 0} → A → List A → List A → Type 0
Picked x [] rest = ⊥
Picked x (y ∷ ys) rest = ((x ≡ y) × (rest ≡ ys)) ⊎ ((zs : _) × (rest ≡ y ∷ zs) × Picked x ys zs)

-- The members of two lists can be paired one to one, each pair being related.
abbrev pub Paired : {A B : Type 0} → (A → B → Type 0) → List A → List B → Type 0
Paired Related [] bs = bs ≡ []
Paired {B} Related (a ∷ as') bs = (b : B) × (rest : List B) × Picked b bs rest × Related a b × Paired Related as' rest

-- The members of two lists are related in place, and there are as many.
abbrev pub Each : {A B : Type 0} → (A → B → Type 0) → List A → List B → Type 0
Each Related [] [] = Unit {0}
Each Related [] (b ∷ bs) = ⊥
Each Related (a ∷ as') [] = ⊥
Each Related (a ∷ as') (b ∷ bs) = Related a b × Each Related as' bs

-- the lists one after another
abbrev pub join : List (List ℕ) → List ℕ
join [] = []
join (octets ∷ more) = octets ++ join more

abbrev pub same_octets : List ℕ → List ℕ → Bool
same_octets [] [] = true
same_octets [] (y ∷ ys) = false
same_octets (x ∷ xs) [] = false
same_octets (x ∷ xs) (y ∷ ys) = (x == y) && same_octets xs ys

-- the octets are one of these
abbrev pub one_of : List ℕ → List (List ℕ) → Bool
one_of octets [] = false
one_of octets (other ∷ others) = same_octets octets other || one_of octets others
