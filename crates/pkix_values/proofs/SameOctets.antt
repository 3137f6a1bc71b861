-- The test on octets.
use Rattle.std.proofs.Common.{◌≡◌, ◌↔◌, IsTrue, Bool, List, ℕ, true, subst}
use Rattle.x690.specs.Lists.{same_octets}
use Rattle.x690_laws.proofs.ReadingSound.{equal_octets, octets_equal}
use Rattle.asn_elements.proofs.ReaderAnswers.{both_ways}

pub octets_test : (b : Bool) (xs ys : List ℕ) → (IsTrue b ↔ (xs ≡ ys)) → b ≡ same_octets xs ys
octets_test b xs ys h =
    both_ways b (same_octets xs ys)
    (λ e. let is : xs ≡ ys = h.0 (search (e)) in subst (λ z. same_octets xs z ≡ true) is (equal_octets xs))
    (λ e. let is : IsTrue b = h.1 (octets_equal xs ys e) in search (is))
