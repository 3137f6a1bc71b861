-- How many fields stand in octets in DER.
use Rattle.std.specs.Prelude.{List, length, ℕ, ◌≡◌}
use Rattle.x690.specs.DerTexts.{texts_of}
use Rattle.x690.specs.Values.{Value}

-- The octets are the texts of so many values, if they are texts of values.
abbrev pub HasFields : ℕ → List ℕ → Type 0
HasFields count octets = (values : List Value) → octets ≡ texts_of values → length values ≡ count
