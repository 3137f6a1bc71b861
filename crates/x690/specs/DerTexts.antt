-- The DER text of a value (X.690 10.1, 10.2, 11.6).
use Rattle.std.specs.Prelude.{Bool, List, [], cond, false, length, map, nat_lt, true, ℕ, ◌&&◌, ◌++◌, ◌==◌, ◌||◌, ◌∷◌, ◌≡◌}
use Rattle.tlv_core.specs.Identifier.{Tag, identifier}
use Rattle.tlv_core.specs.Length.{shortest_length}
use Rattle.x690.specs.Lists.{join}
use Rattle.x690.specs.Values.{FirstMember, Leaf, NoMembers, Sequence, SetOf, Value, Values}

-- The first text is less than the second, octet by octet, the shorter one padded at its end with octets 00 (11.6).
unfoldable pub padded_less : List ℕ → List ℕ → Bool
padded_less [] [] = false
padded_less [] (y ∷ ys) = nat_lt 0 y || padded_less [] ys
padded_less (x ∷ xs) [] = false
padded_less (x ∷ xs) (y ∷ ys) = nat_lt x y || (x == y && padded_less xs ys)

-- the text put before the first one that is greater
unfoldable pub insert_text : List ℕ → List (List ℕ) → List (List ℕ)
insert_text text [] = text ∷ []
insert_text text (first ∷ others) =
    cond (padded_less text first) (text ∷ first ∷ others) (first ∷ insert_text text others)

-- the texts in the order of SET OF, each as often as it stands
unfoldable pub arrange : List (List ℕ) → List (List ℕ)
arrange [] = []
arrange (text ∷ texts) = insert_text text (arrange texts)

-- No text is greater than the one after it.
abbrev pub Ascends : List (List ℕ) → Type 0
Ascends [] = Unit {0}
Ascends (text ∷ []) = Unit {0}
Ascends (text ∷ next ∷ texts) = (padded_less next text ≡ false) × Ascends (next ∷ texts)

-- an element with the shortest definite length (10.1)
unfoldable pub der_element : Tag → Bool → List ℕ → List ℕ
der_element tag constructed contents = identifier tag constructed ++ (shortest_length (length contents) ++ contents)

unfoldable mutual
  -- The DER text of a value: leaves are primitive (10.2), the members of a SET OF stand in order (11.6).
  pub der : Value → List ℕ
  der (Leaf tag contents) = der_element tag false contents
  der (Sequence tag values) = der_element tag true (join (der_texts values))
  der (SetOf tag values) = der_element tag true (join (arrange (der_texts values)))

  pub der_texts : Values → List (List ℕ)
  der_texts NoMembers = []
  der_texts (FirstMember value values) = der value ∷ der_texts values

-- the DER texts of values, one after another
abbrev pub texts_of : List Value → List ℕ
texts_of values = join (map der values)
