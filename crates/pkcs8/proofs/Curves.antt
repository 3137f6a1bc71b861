-- The curve that a container names.
use Rattle.std.proofs.Common.{◌≡◌, ◌∙◌, ◌||◌, ◌∷◌, Bool, List, None, Option, Some, [], ap, false, not, refl, sym, true, ℕ}
use Rattle.std.specs.Option.{is_some, option_map}
use Rattle.tlv_core.specs.declared.reason.Reason.TheVariants.{Parameters}
use Rattle.x690.specs.Layouts.{same_tag, universal}
use Rattle.x690.specs.Lists.{one_of}
use Rattle.x690.specs.Values.{Leaf, Sequence, SetOf, Value, leaf_at, leaf_contents, values_of}
use Rattle.pkix_definitions.specs.Identifiers.{ec_public_key}
use Rattle.pkix_definitions.specs.Rules.{container_curve, ec_parameters_rule, else_refused, is_identifier}
use Rattle.asn_fields.specs.FieldReadings.{with_field}
use Rattle.asn_open_values.specs.OpenValues.{open_value_of}
use Rattle.asn_open_values.specs.TextValues.{identifier_in}
use Rattle.asn_open_values.specs.declared.any.Any.{Any}
use Rattle.pkcs8.specs.Keys.{curve_octets, identifier_of}

is_identifier_in : (v : Value) → is_identifier v ≡ is_some (identifier_in v)
is_identifier_in (Leaf t c) = go (same_tag (universal 6) t)
  where
    go : (b : Bool) → b ≡ is_some (elim b [ true ↦ Some c | false ↦ None ])
    go true = refl
    go false = refl
is_identifier_in (Sequence t vs) = refl
is_identifier_in (SetOf t vs) = refl

-- an AlgorithmIdentifier
abbrev identifier : List ℕ → Option Any → Value
identifier algorithm o =
    Sequence (universal 16) (values_of (Leaf (universal 6) algorithm ∷ with_field (option_map open_value_of o) []))

abbrev is_ec : List ℕ → Bool
is_ec algorithm = one_of algorithm (ec_public_key ∷ [])

parameters_rule_is : (algorithm : List ℕ) (o : Option Any)
    → ec_parameters_rule [] (identifier algorithm o)
    ≡ else_refused (not (is_ec algorithm) || is_some (identifier_of o)) Parameters
unfolding leaf_at
parameters_rule_is algorithm None = refl
parameters_rule_is algorithm (Some x) =
    ap (λ b. else_refused (not (is_ec algorithm) || b) Parameters) (is_identifier_in (open_value_of x))

pub parameters_judged : (algorithm : List ℕ) (o : Option Any) (b c : Bool) → is_ec algorithm ≡ b
    → is_some (identifier_of o) ≡ c
    → ec_parameters_rule [] (identifier algorithm o) ≡ else_refused (not b || c) Parameters
parameters_judged algorithm o b c e f =
    parameters_rule_is algorithm o
    ∙ ap (λ z. else_refused (not z || is_some (identifier_of o)) Parameters) e
    ∙ ap (λ z. else_refused (not b || z) Parameters) f

-- of what was found under the parameters
pub found_named : {A : Type 0} (f : A → List ℕ) (x : Option A) (p o : Option Any) → option_map f x ≡ identifier_of p
    → p ≡ o → is_some (identifier_of o) ≡ is_some x
found_named f x p o e h = sym (ap is_some (e ∙ ap identifier_of h)) ∙ go x
  where
    go : (x : Option _) → is_some (option_map f x) ≡ is_some x
    go None = refl
    go (Some y) = refl

module _ (v : Value) (algorithm : List ℕ) (rest : List Value) where
  curve_is : (o : Option Any)
      → container_curve (v ∷ identifier algorithm o ∷ rest)
      ≡ elim (is_ec algorithm) [
        | true ↦ leaf_at (1 ∷ []) (Leaf (universal 6) algorithm ∷ with_field (option_map open_value_of o) [])
        | false ↦ []
      ]
  unfolding leaf_at
  curve_is None = refl
  curve_is (Some x) = refl

  pub curve_elsewhere : (o : Option Any) → is_ec algorithm ≡ false
      → container_curve (v ∷ identifier algorithm o ∷ rest) ≡ []
  curve_elsewhere o e =
      curve_is o
      ∙ ap (λ b. elim b [
        | true ↦ leaf_at (1 ∷ []) (Leaf (universal 6) algorithm ∷ with_field (option_map open_value_of o) [])
        | false ↦ []
      ]) e

  contents_named : (w : Value) → else_refused (is_some (identifier_in w)) Parameters ≡ None
      → leaf_contents w ≡ curve_octets (identifier_in w)
  contents_named (Leaf t c) e = go (same_tag (universal 6) t) e
    where
      go : (b : Bool) → else_refused (is_some (elim b [ true ↦ Some c | false ↦ None ])) Parameters ≡ None
          → c ≡ curve_octets (elim b [ true ↦ Some c | false ↦ None ])
      go true e = refl
      go false e = cc
  contents_named (Sequence t vs) e = refl
  contents_named (SetOf t vs) e = refl

  named : (o : Option Any) → else_refused (is_some (identifier_of o)) Parameters ≡ None
      → leaf_at (1 ∷ []) (Leaf (universal 6) algorithm ∷ with_field (option_map open_value_of o) [])
      ≡ curve_octets (identifier_of o)
  unfolding leaf_at
  named None e = refl
  named (Some x) e = contents_named (open_value_of x) e

  pub curve_here : (o : Option Any) → ec_parameters_rule [] (identifier algorithm o) ≡ None → is_ec algorithm ≡ true
      → container_curve (v ∷ identifier algorithm o ∷ rest) ≡ curve_octets (identifier_of o)
  curve_here o judged e =
      curve_is o
      ∙ ap (λ b. elim b [
        | true ↦ leaf_at (1 ∷ []) (Leaf (universal 6) algorithm ∷ with_field (option_map open_value_of o) [])
        | false ↦ []
      ]) e
      ∙ named o (sym (parameters_judged algorithm o true (is_some (identifier_of o)) e refl) ∙ judged)
