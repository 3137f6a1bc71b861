-- What the laws on values and their DER texts say.
use Rattle.std.specs.Prelude.{Bool, List, [], false, nat_lt, true, ℕ, ◌&&◌, ◌++◌, ◌==◌, ◌||◌, ◌∷◌, ◌≡◌, ◌⊎◌}
use Rattle.x690.specs.DerTexts.{Ascends, arrange, der, der_texts, padded_less}
use Rattle.x690.specs.Lists.{Paired}
use Rattle.x690.specs.Values.{Same, Value, Values}

pub record Equivalence : Type 0 where
  pub same_refl : (v : Value) → Same v v
  pub same_sym : (v w : Value) → Same v w → Same w v
  pub same_trans : (u v w : Value) → Same u v → Same v w → Same u w

-- The first text is less than the second, octet by octet, where none is padded: one that begins the other is less.
abbrev pub plain_less : List ℕ → List ℕ → Bool
plain_less [] [] = false
plain_less [] (y ∷ ys) = true
plain_less (x ∷ xs) [] = false
plain_less (x ∷ xs) (y ∷ ys) = nat_lt x y || (x == y && plain_less xs ys)

-- The order of SET OF, and the arrangement of its texts.
pub record Arrangement : Type 0 where
  pub total : (x y : List ℕ) → (padded_less x y ≡ false) ⊎ (padded_less y x ≡ false)
  pub transitive : (x y z : List ℕ) → padded_less y x ≡ false → padded_less z y ≡ false → padded_less z x ≡ false
  pub no_front : (v w : Value) (z : List ℕ) → der w ≡ der v ++ z → der v ≡ der w
  pub no_ties : (v w : Value) → padded_less (der v) (der w) ≡ false → padded_less (der w) (der v) ≡ false
      → der v ≡ der w
  pub plain_order : (v w : Value) → padded_less (der v) (der w) ≡ plain_less (der v) (der w)
  pub one_arrangement : (values : Values) (texts : List (List ℕ)) → Ascends texts
      → Paired (λ x y. x ≡ y) texts (der_texts values) → texts ≡ arrange (der_texts values)

-- Neither of the texts is less than the other: they are equal by the order of SET OF.
abbrev pub EqualByOrder : List ℕ → List ℕ → Type 0
EqualByOrder x y = (padded_less x y ≡ false) × (padded_less y x ≡ false)

-- To be equal by the order of SET OF is an equivalence, on all lists of octets.
pub record EqualityByOrder : Type 0 where
  pub equal_refl : (x : List ℕ) → EqualByOrder x x
  pub equal_sym : (x y : List ℕ) → EqualByOrder x y → EqualByOrder y x
  pub equal_trans : (x y z : List ℕ) → EqualByOrder x y → EqualByOrder y z → EqualByOrder x z

abbrev pub SameHaveOneText : Type 0
SameHaveOneText = (v w : Value) → Same v w → der v ≡ der w
