-- The contents of an object identifier (X.690 8.19).
use Rattle.std.specs.Prelude.{◌≡◌, ℕ, ◌+◌, ◌*◌, ◌^◌, ◌<◌, ◌≤◌, List, [], ◌∷◌, flat_map}
use Rattle.tlv_core.specs.Identifier.{base128}

-- each number is below the bound
abbrev pub AllBelow : ℕ → List ℕ → Type 0
AllBelow bound [] = Unit {0}
AllBelow bound (x ∷ xs) = (x < bound) × AllBelow bound xs

-- The octets are the contents of the object identifier with these arcs. There are at least two arcs, the first 0, 1
-- or 2, the second at most 39 where the first is 0 or 1 (8.19.4). The first two stand in one subidentifier, each
-- later arc in one of its own; the octets are their base-128 digits, without leading zeros (8.19.2). Each
-- subidentifier is below 2^128 (profile).
abbrev pub ObjectIdentifierOctets : List ℕ → List ℕ → Type 0
ObjectIdentifierOctets [] octets = ⊥
ObjectIdentifierOctets (first ∷ []) octets = ⊥
ObjectIdentifierOctets (first ∷ second ∷ more) octets =
    (first ≤ 2) × ((first < 2) → second < 40)
    × AllBelow (2 ^ 128) ((40 * first + second) ∷ more)
    × (octets ≡ flat_map base128 ((40 * first + second) ∷ more))

-- The octets are the contents of an object identifier.
abbrev pub IsObjectIdentifier : List ℕ → Type 0
IsObjectIdentifier octets = (arcs : List ℕ) × ObjectIdentifierOctets arcs octets

-- The octets are those of these arcs after the first two: a subidentifier for each (8.19.3).
abbrev pub LaterOctets : List ℕ → List ℕ → Type 0
LaterOctets arcs octets = AllBelow (2 ^ 128) arcs × (octets ≡ flat_map base128 arcs)
