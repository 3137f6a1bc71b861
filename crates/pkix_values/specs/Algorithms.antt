-- What clauses see of an AlgorithmIdentifier, by the names of its fields (RFC 5280 section 4.1.1.2).
use Rattle.std.specs.Prelude.{List, Option, ℕ}
use Rattle.asn_open_values.specs.declared.any.Any.{Any}
use Rattle.pkix_values.specs.declared.algorithm.AlgorithmIdentifier.{AlgorithmIdentifier}

-- algorithm, by the contents of the identifier, as identifiers everywhere
abbrev pub algorithm_of : AlgorithmIdentifier → List ℕ
algorithm_of it = it.0.value.fields.0.0.0

-- parameters, where they are there
abbrev pub parameters_of : AlgorithmIdentifier → Option Any
parameters_of it = it.0.value.fields.0.1.0
