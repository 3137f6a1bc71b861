-- The versions of a type, by their numbers: what is listed, the rule, and the text.
use Rattle.std.proofs.Common.{◌++◌, arith, nat_le, nat_lt, ◌≡◌, ◌≤◌, ◌<◌, ◌+◌, ◌-◌, ◌==◌, ◌&&◌, ◌||◌, ◌⊎◌, ◌∷◌, ◌∙◌, ⊎_elim, Bool, List, None, Some, [], ap, cond, false, length, refl, suc, sym, true, zero, ℕ}
use Rattle.std.proofs.lemmas.Bool.Decides.{nat_tests}
use Rattle.tlv_core.specs.Identifier.{IsTag, identifier}
use Rattle.tlv_core.specs.Length.{shortest_length}
use Rattle.tlv_core.specs.declared.reason.Reason.TheVariants.{Version}
use Rattle.x690.specs.Contents.{Integer}
use Rattle.x690.specs.DerTexts.{der, der_element}
use Rattle.x690.specs.Fitting.{Fits}
use Rattle.x690.specs.Layouts.{LaidOut, Primitive, universal}
use Rattle.x690.specs.Lists.{one_of}
use Rattle.pkix_definitions.specs.DocumentTypes.{version}
use Rattle.pkix_definitions.specs.Rules.{else_refused, version_rule}
use Rattle.x690.specs.Values.{Leaf, Same, Value}
use Rattle.pkix_definitions.proofs.Fairs.{fair_version}
use Rattle.x690_laws.proofs.ReadingLeavesSound.{contents_fit}
use Rattle.x690_laws.proofs.TextsAsTrees.{element_definite}
use Rattle.asn_elements.specs.InDer.{BeginsInDer}
use Rattle.pkix_values.specs.Versions.{one_octets, versions}

-- those that documents have
only_0 : versions 0 0 ≡ (0 ∷ []) ∷ []
only_0 = refl

only_1 : versions 1 1 ≡ (1 ∷ []) ∷ []
only_1 = refl

from_0_to_1 : versions 0 1 ≡ (0 ∷ []) ∷ (1 ∷ []) ∷ []
from_0_to_1 = refl

-- a number is listed from the first one on, as many as there are, and below 128
counted : (count start n : ℕ)
    → one_of (n ∷ []) (one_octets count start) ≡ nat_le start n && nat_lt n (start + count) && nat_lt n 128
counted zero start n = grind (arith, nat_tests)
counted (suc count) start n = go (nat_lt start 128) refl (counted count (suc start) n)
  where
    go : (b : Bool) → nat_lt start 128 ≡ b
        → one_of (n ∷ []) (one_octets count (suc start))
        ≡ nat_le (suc start) n && nat_lt n (suc start + count) && nat_lt n 128
        → one_of (n ∷ []) (cond b ((start ∷ []) ∷ one_octets count (suc start)) [])
        ≡ nat_le start n && nat_lt n (start + suc count) && nat_lt n 128
    go true e h = grind (arith, nat_tests)
    go false e h = grind (arith, nat_tests)

pub within : (least most n : ℕ) → least ≤ n → n ≤ most → nat_lt n 128 ≡ one_of (n ∷ []) (versions least most)
within least most n low high = let e = counted (suc most - least) least n in grind (arith, nat_tests)

pub outside : (least most n : ℕ) → (n < least) ⊎ ((least ≤ n) × (most < n))
    → false ≡ one_of (n ∷ []) (versions least most)
outside least most n h =
    let e = counted (suc most - least) least n in
    ⊎_elim (λ low. grind (arith, nat_tests)) (λ high. let past = high.1 in grind (arith, nat_tests)) h

pub bounds : (least most n : ℕ) → one_of (n ∷ []) (versions least most) ≡ true → (least ≤ n) × (n ≤ most) × (n < 128)
bounds least most n h =
    let e = counted (suc most - least) least n in
    (grind (arith, nat_tests), grind (arith, nat_tests), grind (arith, nat_tests))

-- contents of another length aren't listed
none_empty : (count start : ℕ) → false ≡ one_of [] (one_octets count start)
none_empty zero start = refl
none_empty (suc count) start = go (nat_lt start 128) (none_empty count (suc start))
  where
    go : (b : Bool) → false ≡ one_of [] (one_octets count (suc start))
        → false ≡ one_of [] (cond b ((start ∷ []) ∷ one_octets count (suc start)) [])
    go true h = h
    go false h = refl

-- two octets aren't one
no_single : (c d : Bool) → false ≡ d → false ≡ (c && false || d)
no_single true d h = h
no_single false d h = h

none_longer : (count start x y : ℕ) (more : List ℕ) → false ≡ one_of (x ∷ y ∷ more) (one_octets count start)
none_longer zero start x y more = refl
none_longer (suc count) start x y more =
    go (nat_lt start 128) (no_single (x == start) _ (none_longer count (suc start) x y more))
  where
    go : (b : Bool) → false ≡ one_of (x ∷ y ∷ more) ((start ∷ []) ∷ one_octets count (suc start))
        → false ≡ one_of (x ∷ y ∷ more) (cond b ((start ∷ []) ∷ one_octets count (suc start)) [])
    go true h = h
    go false h = refl

pub of_others : (least most : ℕ) (contents : List ℕ) → (length contents ≡ 1 → ⊥)
    → false ≡ one_of contents (versions least most)
of_others least most [] h = none_empty (suc most - least) least
of_others least most (x ∷ []) h = absurd (h refl)
of_others least most (x ∷ y ∷ more) h = none_longer (suc most - least) least x y more

-- the rule, of an INTEGER with these contents
module _ (allowed : List (List ℕ)) (contents : List ℕ) (v : Value) (same : Same v (Leaf (universal 2) contents)) where
  pub version_holds : true ≡ one_of contents allowed → version_rule allowed [] v ≡ None
  version_holds h =
      fair_version allowed [] [] v (Leaf (universal 2) contents) tt same ∙ ap (λ b. else_refused b Version) (sym h)

  pub version_refused : false ≡ one_of contents allowed → version_rule allowed [] v ≡ Some Version
  version_refused h =
      fair_version allowed [] [] v (Leaf (universal 2) contents) tt same ∙ ap (λ b. else_refused b Version) (sym h)

pub version_text : (number : ℕ) → der (Leaf (universal 2) (number ∷ [])) ≡ 2 ∷ 1 ∷ number ∷ []
unfolding der der_element identifier shortest_length
version_text number = refl

-- a version in DER

is_integer : IsTag (universal 2)
is_integer = record { class_fits = omega arith; number_fits = omega arith; not_end = omega arith }

pub version_begins : (limit left : ℕ) (allowed : List (List ℕ)) (number : ℕ) (octets rest : List ℕ)
    → octets ≡ 2 ∷ 1 ∷ number ∷ rest → true ≡ one_of (number ∷ []) allowed
    → BeginsInDer limit left (version allowed) octets rest
unfolding Fits LaidOut der
version_begins limit left allowed number octets rest is listed = (
  Leaf (universal 2) (number ∷ []),
  λ earlier. record {
    is = is ∙ sym (ap (λ z. z ++ rest) (version_text number));
    tree = Primitive (universal 2) (number ∷ []);
    laid_out = (is_integer, element_definite (universal 2) false (number ∷ []) (omega arith));
    depth_fits = omega arith;
    fits = (
      ap (λ b. else_refused b Version) (sym listed),
      (refl, number ∷ [], contents_fit Integer (universal 2) (number ∷ []) refl, refl),
    );
  },
)
