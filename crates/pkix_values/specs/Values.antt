-- What clauses see of public keys.
use Rattle.std.specs.Prelude.{Bool, List, length, not, ℕ, ◌&&◌, ◌-◌, ◌||◌}
use Rattle.pkix_definitions.specs.Identifiers.{entry_under, rfc8410_algorithms, rfc8410_lengths}
use Rattle.x690.specs.Lists.{one_of}
use Rattle.pkix_definitions.specs.Rules.{has_length, no_unused}

-- the contents of a BIT STRING are those of a public key under the algorithm: under one of RFC 8410's of the table's
-- length, without unused bits
abbrev pub key_fits : List ℕ → List ℕ → Bool
key_fits algorithm contents =
    not (one_of algorithm rfc8410_algorithms)
    || (has_length (entry_under rfc8410_lengths algorithm) (length contents - 1) && no_unused contents)
