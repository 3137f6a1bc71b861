-- The order of SET OF as a test.
use Rattle.std.proofs.Common.{◌≡◌, ◌&&◌, ℕ, not, refl, List, [], ◌∷◌, Bool, true, false}
use Rattle.x690.specs.DerTexts.{Ascends, padded_less}
use Rattle.asn_elements.specs.Members.{ascends}

both : (p q : Bool) → p ≡ false → q ≡ true → (not p && q) ≡ true
both true b p q = cc
both false b p q = q

-- what ascends passes the test
pub ascends_by : (ts : List (List ℕ)) → Ascends ts → ascends ts ≡ true
ascends_by [] h = refl
ascends_by (t ∷ []) h = refl
ascends_by (t ∷ u ∷ ts) h = both (padded_less u t) (ascends (u ∷ ts)) h.0 (ascends_by (u ∷ ts) h.1)

not_and : (p q : Bool) → (not p && q) ≡ true → (p ≡ false) × (q ≡ true)
not_and true q h = cc
not_and false q h = (refl, h)

-- and the other way round
pub ascends_is : (texts : List (List ℕ)) → ascends texts ≡ true → Ascends texts
ascends_is [] h = tt
ascends_is (text ∷ []) h = tt
ascends_is (text ∷ next ∷ texts) h =
    let both = not_and (padded_less next text) (ascends (next ∷ texts)) h in (both.0, ascends_is (next ∷ texts) both.1)
