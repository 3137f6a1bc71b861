-- What the rules say of the values of the types.
use Rattle.std.proofs.Common.{◌≡◌, ◌∙◌, Bool, true, false, List, [], ◌∷◌, Option, Some, None, ℕ, ap, refl, not, sym, ◌||◌}
use Rattle.std.specs.Option.{is_some, option_map}
use Rattle.tlv_core.specs.declared.reason.Reason.TheVariants.{KeyLength, Parameters}
use Rattle.pkix_definitions.specs.Identifiers.{rfc8410_algorithms}
use Rattle.x690.specs.Layouts.{universal}
use Rattle.x690.specs.Lists.{one_of}
use Rattle.pkix_definitions.specs.Rules.{else_refused, key_bits_rule, parameters_rule}
use Rattle.x690.specs.Values.{Leaf, Sequence, Value, leaf_at, values_of}
use Rattle.asn_fields.specs.Dependents.{passes}
use Rattle.asn_fields.specs.FieldReadings.{with_field}
use Rattle.pkix_values.specs.Values.{key_fits}

-- An algorithm with parameters, or without.
module _ {A : Type 0} (f : A → Value) (algorithm : List ℕ) (o : Option A) where
  abbrev identifier : Value
  identifier = Sequence (universal 16) (values_of (Leaf (universal 6) algorithm ∷ with_field (option_map f o) []))

  parameters_rule_is : (p : Option A)
      → parameters_rule []
      (Sequence (universal 16) (values_of (Leaf (universal 6) algorithm ∷ with_field (option_map f p) [])))
      ≡ else_refused (not (one_of algorithm rfc8410_algorithms) || not (is_some p)) Parameters
  unfolding leaf_at
  parameters_rule_is None = refl
  parameters_rule_is (Some x) = refl

  pub parameters_allowed : (one_of algorithm rfc8410_algorithms ≡ true → o ≡ None)
      → parameters_rule [] identifier ≡ None
  parameters_allowed h = parameters_rule_is o ∙ go (one_of algorithm rfc8410_algorithms) o h
    where
      go : (b : Bool) (o : Option A) → (b ≡ true → o ≡ None) → else_refused (not b || not (is_some o)) Parameters ≡ None
      go true None h = refl
      go true (Some x) h = let none : Some x ≡ None = h refl in cc
      go false o h = refl

  pub parameters_refused : one_of algorithm rfc8410_algorithms ≡ true → is_some o ≡ true
      → parameters_rule [] identifier ≡ Some Parameters
  parameters_refused e h = parameters_rule_is o ∙ go (one_of algorithm rfc8410_algorithms) (is_some o) e h
    where
      go : (b c : Bool) → b ≡ true → c ≡ true → else_refused (not b || not c) Parameters ≡ Some Parameters
      go true true e h = refl
      go true false e h = cc
      go false c e h = cc

  pub parameters_bare : parameters_rule [] identifier ≡ None → one_of algorithm rfc8410_algorithms ≡ true → o ≡ None
  parameters_bare e h = go (one_of algorithm rfc8410_algorithms) o (sym (parameters_rule_is o) ∙ e) h
    where
      go : (b : Bool) (o : Option A) → else_refused (not b || not (is_some o)) Parameters ≡ None → b ≡ true → o ≡ None
      go true None e h = refl
      go true (Some x) e h = cc
      go false o e h = cc

-- A key after its algorithm.
module _ (algorithm bits : List ℕ) (more : List Value) where
  key_rule_is : key_bits_rule (0 ∷ 0 ∷ [])
      (Sequence (universal 16) (values_of (Leaf (universal 6) algorithm ∷ more)) ∷ []) (Leaf (universal 3) bits)
      ≡ else_refused (key_fits algorithm bits) KeyLength
  unfolding leaf_at
  key_rule_is = refl

  pub key_is_fit : passes (key_bits_rule (0 ∷ 0 ∷ [])
      (Sequence (universal 16) (values_of (Leaf (universal 6) algorithm ∷ more)) ∷ []) (Leaf (universal 3) bits))
      ≡ true
      → key_fits algorithm bits ≡ true
  key_is_fit e = go (key_fits algorithm bits) (sym (ap passes key_rule_is) ∙ e)
    where
      go : (b : Bool) → passes (else_refused b KeyLength) ≡ true → b ≡ true
      go true e = refl
      go false e = cc
