-- Which kind of key stands in a container, by the algorithm.
use Rattle.std.proofs.Common.{◌≡◌, ◌∷◌, Bool, List, [], false, not, refl, true, ℕ}
use Rattle.asn_fields.specs.Dependents.{suits_as}
use Rattle.asn_elements.specs.declared.octets.Octets.{Octets}
use Rattle.asn_fields.specs.declared.either.Either.{Either}
use Rattle.asn_fields.specs.declared.either.Either.TheVariants.{First, Second}
use Rattle.pkcs8.specs.Seen.{GoesWith}
use Rattle.pkcs8.proofs.KeyVersions.{both_first, both_second}
use Rattle.private_keys.specs.declared.curve_key.CurveKey.{CurveKey}
use Rattle.private_keys.specs.declared.ec_private_key.EcPrivateKey.{EcPrivateKey}
use Rattle.private_keys.specs.RsaParts.{RsaPrivateKey}
use Rattle.pkix_definitions.specs.Identifiers.{ec_public_key, rfc8410_algorithms, rsa_encryption}
use Rattle.x690.specs.Lists.{one_of}

off : (a : Bool) → not a ≡ true → a ≡ false
off true h = cc
off false h = refl

-- one of two that suits its algorithm, where the second one goes on with what is known of it
module _ (algorithm : List ℕ) {E M C N R O : Type 0} (others : M → Either C N) (rest : N → Either R O)
    (ec : E → EcPrivateKey) (curve : C → CurveKey) (rsa : R → RsaPrivateKey) (octets : O → Octets)
    (suits_ec : E → Bool) (suits_curve : C → Bool) (suits_rsa : R → Bool) (suits_octets : O → Bool) where
  behind_curve : (it : Either R O) → one_of algorithm (ec_public_key ∷ []) ≡ false
      → one_of algorithm rfc8410_algorithms ≡ false
      → suits_as (one_of algorithm (rsa_encryption ∷ [])) suits_rsa suits_octets it ≡ true
      → GoesWith algorithm
      (elim it [ First r ↦ Second (Second (First (rsa r))) | Second o ↦ Second (Second (Second (octets o))) ])
  behind_curve (First r) no_ec no_curve h = both_first (one_of algorithm (rsa_encryption ∷ [])) _ h
  behind_curve (Second o) no_ec no_curve h =
      let rsa_alone = one_of algorithm (rsa_encryption ∷ []) in
      (no_ec, no_curve, off rsa_alone (both_first (not rsa_alone) _ h))

  behind_ec : (it : Either C N) → one_of algorithm (ec_public_key ∷ []) ≡ false
      → suits_as (one_of algorithm rfc8410_algorithms) suits_curve
      (λ n. suits_as (one_of algorithm (rsa_encryption ∷ [])) suits_rsa suits_octets (rest n)) it
      ≡ true
      → GoesWith algorithm
      (elim it [
        | First c ↦ Second (First (curve c))
        | Second n ↦ elim (rest n) [
          | First r ↦ Second (Second (First (rsa r)))
          | Second o ↦ Second (Second (Second (octets o)))
        ]
      ])
  behind_ec (First c) no_ec h = both_first (one_of algorithm rfc8410_algorithms) _ h
  behind_ec (Second n) no_ec h =
      let b = not (one_of algorithm rfc8410_algorithms) in
      behind_curve (rest n) no_ec (off (one_of algorithm rfc8410_algorithms) (both_first b _ h)) (both_second b _ h)

  pub goes_with : (it : Either E M)
      → suits_as (one_of algorithm (ec_public_key ∷ [])) suits_ec
      (λ m. suits_as (one_of algorithm rfc8410_algorithms) suits_curve
      (λ n. suits_as (one_of algorithm (rsa_encryption ∷ [])) suits_rsa suits_octets (rest n)) (others m)) it
      ≡ true
      → GoesWith algorithm
      (elim it [
        | First e ↦ First (ec e)
        | Second m ↦ elim (others m) [
          | First c ↦ Second (First (curve c))
          | Second n ↦ elim (rest n) [
            | First r ↦ Second (Second (First (rsa r)))
            | Second o ↦ Second (Second (Second (octets o)))
          ]
        ]
      ])
  goes_with (First e) h = both_first (one_of algorithm (ec_public_key ∷ [])) _ h
  goes_with (Second m) h =
      let b = not (one_of algorithm (ec_public_key ∷ [])) in
      behind_ec (others m) (off (one_of algorithm (ec_public_key ∷ [])) (both_first b _ h)) (both_second b _ h)
