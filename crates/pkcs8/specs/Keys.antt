-- What clauses see of private keys in their containers.
use Rattle.std.specs.Prelude.{List, None, Option, Some, [], ℕ}
use Rattle.asn_open_values.specs.OpenValues.{open_value_of}
use Rattle.asn_open_values.specs.TextValues.{identifier_in}
use Rattle.asn_open_values.specs.declared.any.Any.{Any}

-- the contents of the identifier of a curve, none where no curve is named
abbrev pub curve_octets : Option (List ℕ) → List ℕ
curve_octets None = []
curve_octets (Some curve) = curve

-- the identifier that these parameters are, if they are one
abbrev pub identifier_of : Option Any → Option (List ℕ)
identifier_of None = None
identifier_of (Some parameters) = identifier_in (open_value_of parameters)
