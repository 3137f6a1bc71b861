-- INTEGERs that are due one after another, and their DER encodings in one text.
use Rattle.std.specs.Prelude.{List, [], map, slice_index, slice_range, suc, zero, ℕ, ◌++◌, ◌∷◌}
use Rattle.x690.specs.Layouts.{universal}
use Rattle.x690.specs.TypeTerms.{Fields, Required}
use Rattle.x690.specs.UniversalTypes.{integer}
use Rattle.x690.specs.Values.{Leaf, Value}
use Rattle.x690_laws.proofs.TextsTellApart.{leaf_one_text}
use Rattle.asn_fields.specs.ApartLaws.{both, required}
use Rattle.asn_fields.specs.Listings.{Listing, through}

-- the INTEGER with these contents
abbrev pub integer_value : List ℕ → Value
integer_value contents = Leaf (universal 2) contents

-- so many INTEGERs that are due, in front of other fields
abbrev pub integers_due : ℕ → Fields → Fields
integers_due zero rest = rest
integers_due (suc n) rest = Required integer (integers_due n rest)

-- the first n of what stands at places
abbrev pub first_of : (ℕ → List ℕ) → ℕ → List (List ℕ)
first_of at zero = []
first_of at (suc n) = first_of at n ++ (at n ∷ [])

-- Number i of those in a text in which the contents of each begin and end at these places.
abbrev pub number_in : List ℕ → List ℕ → List ℕ → ℕ → List ℕ
number_in text begins ends i = slice_range text (slice_index begins i) (slice_index ends i)

-- the values of the first n of them
abbrev pub values_in : List ℕ → List ℕ → List ℕ → ℕ → List Value
values_in text begins ends n = map integer_value (first_of (number_in text begins ends) n)

abbrev one : Listing (λ contents. integer_value contents ∷ [])
one = required integer_value integer (leaf_one_text (universal 2) (universal 2))

abbrev Pair : Type 0 → Type 0
Pair A = A × A

abbrev by_pairs : (ℕ → List ℕ) → Pair (Pair (Pair (List ℕ)))
by_pairs at = (((at 0, at 1), (at 2, at 3)), ((at 4, at 5), (at 6, at 7)))

-- eight INTEGERs
abbrev pub eight : Listing (λ at. map integer_value (first_of at 8))
eight = let two = both one one in let four = both two two in through by_pairs (both four four)
