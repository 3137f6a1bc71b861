-- Object identifiers with their usual names.
use Rattle.std.specs.Prelude.{List, None, Option, Some, [], false, map, true, ℕ, ◌∷◌}
use Rattle.x690.specs.Lists.{same_octets}
use Rattle.pkix_shapes.specs.declared.identifiers.Identifier.{Identifier}
use Rattle.pkix_shapes.specs.declared.identifiers.TheConstants.{CURVES_ROWS, ENCRYPTION_ROWS, HASH_BASED_ROWS, KEYS_ROWS, NAMES_ROWS, OTHERS_ROWS, SIGNATURES_ROWS}

-- the name, the arcs in decimal, the standard that the name comes from, and the contents octets
abbrev pub Row : Type 0
Row = List ℕ × List ℕ × List ℕ × List ℕ

abbrev pub row_of : Identifier → Row
row_of it = (it.name.now, it.arcs.now, it.source.now, it.contents.now)

unfoldable pub keys_rows : List Row
keys_rows = map (λ row. (row.0.now, row.1.now, row.2.now, row.3.now)) KEYS_ROWS.now

unfoldable pub hash_based_rows : List Row
hash_based_rows = map (λ row. (row.0.now, row.1.now, row.2.now, row.3.now)) HASH_BASED_ROWS.now

unfoldable pub curves_rows : List Row
curves_rows = map (λ row. (row.0.now, row.1.now, row.2.now, row.3.now)) CURVES_ROWS.now

unfoldable pub signatures_rows : List Row
signatures_rows = map (λ row. (row.0.now, row.1.now, row.2.now, row.3.now)) SIGNATURES_ROWS.now

unfoldable pub encryption_rows : List Row
encryption_rows = map (λ row. (row.0.now, row.1.now, row.2.now, row.3.now)) ENCRYPTION_ROWS.now

unfoldable pub names_rows : List Row
names_rows = map (λ row. (row.0.now, row.1.now, row.2.now, row.3.now)) NAMES_ROWS.now

unfoldable pub others_rows : List Row
others_rows = map (λ row. (row.0.now, row.1.now, row.2.now, row.3.now)) OTHERS_ROWS.now

-- the first row with these contents
abbrev pub row_with : List Row → List ℕ → Option Row
row_with [] contents = None
row_with (row ∷ after) contents =
    elim (same_octets row.3 contents) [ true ↦ Some row | false ↦ row_with after contents ]

abbrev pub or_row : Option Row → Option Row → Option Row
or_row (Some row) other = Some row
or_row None other = other

-- the row with these contents among all of them
abbrev pub usual : List ℕ → Option Row
usual contents = or_row (or_row (or_row (or_row (or_row (or_row (row_with keys_rows contents)
    (row_with hash_based_rows contents))
    (row_with curves_rows contents))
    (row_with signatures_rows contents))
    (row_with encryption_rows contents))
    (row_with names_rows contents))
    (row_with others_rows contents)
