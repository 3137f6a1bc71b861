-- What the rules say of the keys that are contained.
use Rattle.std.proofs.Common.{◌≡◌, ◌∙◌, ◌==◌, Bool, List, None, Option, Some, ap, false, length, not, refl, sym, true, ℕ}
use Rattle.std.specs.Bool.{then_some}
use Rattle.std.specs.Option.{option_map}
use Rattle.tlv_core.specs.declared.reason.Reason.TheVariants.{Curve, KeyLength}
use Rattle.tlv_core.specs.declared.reason.Reason.{Reason}
use Rattle.x690.specs.Lists.{same_octets}
use Rattle.x690.specs.Values.{Value, leaf_at}
use Rattle.pkix_definitions.specs.Identifiers.{curve_lengths, entry_under}
use Rattle.pkix_definitions.specs.Rules.{container_curve, else_refused, has_length, inner_ec_rule}
use Rattle.private_keys.proofs.Rules.{ec_key}
use Rattle.pkcs8.specs.Keys.{curve_octets}

-- by the contents of the curve that the key names, and of the container's
abbrev ruled_by : List ℕ → List ℕ → List ℕ → Option Reason
ruled_by own due key =
    elim (length own == 0) [
      | false ↦ else_refused (same_octets own due) Curve
      | true ↦ else_refused (has_length (entry_under curve_lengths due) (length key)) KeyLength
    ]

-- a reason where a test fails
pub some_is : (test : Bool) (why : Reason) → then_some (not test) why ≡ else_refused test why
some_is true why = refl
some_is false why = refl

module _ {A B : Type 0} (f : A → List ℕ) (g : B → List ℕ) (number key : List ℕ) (earlier : List Value) where
  inner_rule_is : (o : Option A) (p : Option B)
      → inner_ec_rule earlier (ec_key f g number key o p)
      ≡ ruled_by (curve_octets (option_map f o)) (container_curve earlier) key
  unfolding leaf_at
  inner_rule_is None None = refl
  inner_rule_is None (Some b) = refl
  inner_rule_is (Some a) None = refl
  inner_rule_is (Some a) (Some b) = refl

  inner_rule_by : (o : Option A) (p : Option B) (own due : List ℕ) → own ≡ curve_octets (option_map f o)
      → container_curve earlier ≡ due → inner_ec_rule earlier (ec_key f g number key o p) ≡ ruled_by own due key
  inner_rule_by o p own due h k =
      inner_rule_is o p ∙ ap (λ z. ruled_by z (container_curve earlier) key) (sym h) ∙ ap (λ z. ruled_by own z key) k

  pub another_curve : (o : Option A) (p : Option B) (own due : List ℕ) (b : Bool) → own ≡ curve_octets (option_map f o)
      → container_curve earlier ≡ due → (length own == 0) ≡ false → same_octets own due ≡ b
      → inner_ec_rule earlier (ec_key f g number key o p) ≡ else_refused b Curve
  another_curve o p own due b h k e x =
      inner_rule_by o p own due h k
      ∙ ap (λ z. elim z [
        | false ↦ else_refused (same_octets own due) Curve
        | true ↦ else_refused (has_length (entry_under curve_lengths due) (length key)) KeyLength
      ]) e
      ∙ ap (λ z. else_refused z Curve) x

  pub of_no_curve : (o : Option A) (p : Option B) (own due : List ℕ) (b : Bool) → own ≡ curve_octets (option_map f o)
      → container_curve earlier ≡ due → (length own == 0) ≡ true
      → has_length (entry_under curve_lengths due) (length key) ≡ b
      → inner_ec_rule earlier (ec_key f g number key o p) ≡ else_refused b KeyLength
  of_no_curve o p own due b h k e x =
      inner_rule_by o p own due h k
      ∙ ap (λ z. elim z [
        | false ↦ else_refused (same_octets own due) Curve
        | true ↦ else_refused (has_length (entry_under curve_lengths due) (length key)) KeyLength
      ]) e
      ∙ ap (λ z. else_refused z KeyLength) x
