-- Members of a container: where their texts begin, and their order.
use Rattle.std.specs.Prelude.{Bool, List, [], length, not, true, ℕ, ◌&&◌, ◌+◌, ◌∷◌, ◌≡◌}
use Rattle.x690.specs.DerTexts.{der, padded_less, texts_of}
use Rattle.x690.specs.Values.{Value}

-- where each one's text begins, the first at `n`
abbrev pub starts_from : ℕ → List Value → List ℕ
starts_from n [] = []
starts_from n (value ∷ values) = n ∷ starts_from (n + length (der value)) values

-- The texts of the values stand one after another in the octets, each beginning at one of the starts.
abbrev pub StandIn : List Value → List ℕ → List ℕ → Type 0
StandIn values octets starts = (octets ≡ texts_of values) × (starts ≡ starts_from 0 values)

-- No text is greater than the one after it: `Ascends` of x690 as a test.
abbrev pub ascends : List (List ℕ) → Bool
ascends [] = true
ascends (text ∷ []) = true
ascends (text ∷ next ∷ texts) = not (padded_less next text) && ascends (next ∷ texts)
