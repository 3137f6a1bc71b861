-- How object identifiers are written: their arcs in decimal, with a full stop between.
use Rattle.std.specs.Prelude.{List, [], codes, cond, decimal, flat_map, min, nat_lt, ℕ, ◌*◌, ◌++◌, ◌+◌, ◌-◌, ◌/◌, ◌∷◌, ◌≡◌}
use Rattle.tlv_core.specs.ObjectIdentifier.{ObjectIdentifierOctets}

-- The numbers of subidentifiers: each octet tells 7 bits more, and bit 8 is set on all but the last
-- one of each (X.690 8.19.2).
abbrev pub subidentifiers : ℕ → List ℕ → List ℕ
subidentifiers high [] = []
subidentifiers high (octet ∷ octets) =
    cond (nat_lt octet 128) ((high * 128 + octet) ∷ subidentifiers 0 octets)
    (subidentifiers (high * 128 + (octet - 128)) octets)

-- The first subidentifier tells two arcs, 40 times the first one, which is at most 2, and the second one (8.19.4).
abbrev pub arcs_by : List ℕ → List ℕ
arcs_by [] = []
arcs_by (first ∷ others) = let root = min (first / 40) 2 in root ∷ (first - 40 * root) ∷ others

-- the arcs of the object identifier with these contents
abbrev pub arcs_of : List ℕ → List ℕ
arcs_of contents = arcs_by (subidentifiers 0 contents)

-- numbers with a full stop between
abbrev pub dotted : List ℕ → List ℕ
dotted [] = []
dotted (arc ∷ arcs) = decimal arc ++ flat_map (λ next. codes "." ++ decimal next) arcs

-- an object identifier, by its contents
unfoldable pub oid_text : List ℕ → List ℕ
oid_text contents = dotted (arcs_of contents)

-- Contents that are those of an object identifier with these arcs have their text.
abbrev pub ArcsAreTold : Type 0
ArcsAreTold = (arcs contents : List ℕ) → ObjectIdentifierOctets arcs contents → oid_text contents ≡ dotted arcs
