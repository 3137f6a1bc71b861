-- What clauses see of RSA private keys.
use Rattle.std.specs.Prelude.{List, None, Option, Some, [], ℕ}
use Rattle.asn_fields.specs.declared.either.Either.{Either}
use Rattle.asn_fields.specs.declared.either.Either.TheVariants.{First, Second}
use Rattle.private_keys.specs.RsaNumbers.{first_of, number_in}
use Rattle.private_keys.specs.declared.rsa_numbers.Numbers.{Numbers}

-- modulus, publicExponent, privateExponent, prime1, prime2, exponent1, exponent2, coefficient: the contents of each
abbrev pub numbers_of : Numbers → List (List ℕ)
numbers_of n = first_of (number_in n.text.items n.begins n.ends) 8

-- the members of a list that may stand, none of what may not
abbrev pub infos : {A B C : Type 0} → (B → List C) → Either A B → List C
infos items (First never) = []
infos items (Second list) = items list

-- the primes after the first two
abbrev pub other_primes : {A B C : Type 0} → (B → List C) → Option (Either A B) → List C
other_primes items None = []
other_primes items (Some either) = infos items either
