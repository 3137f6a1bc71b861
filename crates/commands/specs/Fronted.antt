-- Lines with something in front of each.
use Rattle.std.specs.Prelude.{Bool, List, [], cond, ℕ, ◌++◌, ◌==◌, ◌∷◌}

-- Lines with this in front of each, where one begins, or goes on.
abbrev pub fronted : List ℕ → Bool → List ℕ → List ℕ
fronted front begins [] = []
fronted front begins (octet ∷ octets) = cond begins front [] ++ (octet ∷ fronted front (octet == 10) octets)
