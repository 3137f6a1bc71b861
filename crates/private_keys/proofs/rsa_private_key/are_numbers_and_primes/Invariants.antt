use Rattle.std.proofs.Common.{◌+◌, ℕ}
use Rattle.private_keys.specs.RsaInDer.{HasFields}
use Rattle.private_keys.proofs.rsa_private_key.are_numbers_and_primes.Given as goal

abbrev pub invariant-loop : goal.invariant-loop
invariant-loop l = (count : ℕ) → HasFields count l.rest → HasFields (count + l.counter) l.octets
