-- The rules on EC and RSA private keys.
use Rattle.std.proofs.Common.{◌≡◌, ◌∙◌, ◌++◌, ◌||◌, List, [], ◌∷◌, Option, Some, None, ℕ, Bool, ap, false, length, refl, sym, true}
use Rattle.std.specs.Option.{option_map}
use Rattle.tlv_core.specs.declared.reason.Reason.TheVariants.{KeyLength, VersionRule}
use Rattle.x690.specs.Layouts.{context_specific, universal}
use Rattle.pkix_definitions.specs.Paths.{first_field, version_0}
use Rattle.pkix_definitions.specs.Rules.{ec_rule, else_refused, has_length, leaf_is_one_of, rsa_version_rule}
use Rattle.x690.specs.Values.{Leaf, Sequence, Value, leaf_at, values_of}
use Rattle.asn_fields.specs.FieldReadings.{with_field}
use Rattle.private_keys.specs.EcKeys.{named_length}

module _ {A B : Type 0} (f : A → List ℕ) (g : B → List ℕ) (number key : List ℕ) where
  -- with this curve, or none, and this public key, or none
  abbrev pub ec_key : Option A → Option B → Value
  ec_key o p =
      Sequence (universal 16) (values_of (Leaf (universal 2) number ∷ Leaf (universal 4) key
      ∷ (with_field (option_map (λ a. Sequence (context_specific 0) (values_of (Leaf (universal 6) (f a) ∷ []))) o) []
      ++ with_field
      (option_map (λ b. Sequence (context_specific 1) (values_of (Leaf (universal 3) (g b) ∷ []))) p) [])))

  pub ec_rule_is : (o : Option A) (p : Option B)
      → ec_rule [] (ec_key o p) ≡ else_refused (has_length (named_length (option_map f o)) (length key)) KeyLength
  unfolding leaf_at
  ec_rule_is None None = refl
  ec_rule_is None (Some b) = refl
  ec_rule_is (Some a) None = refl
  ec_rule_is (Some a) (Some b) = refl

  pub ec_judged : (o : Option A) (p : Option B) (b : Bool) → has_length (named_length (option_map f o)) (length key) ≡ b
      → ec_rule [] (ec_key o p) ≡ else_refused b KeyLength
  ec_judged o p b e = ec_rule_is o p ∙ ap (λ b. else_refused b KeyLength) e

  pub ec_fits : (o : Option A) (p : Option B) → ec_rule [] (ec_key o p) ≡ None
      → has_length (named_length (option_map f o)) (length key) ≡ true
  ec_fits o p e = go (has_length (named_length (option_map f o)) (length key)) (sym (ec_rule_is o p) ∙ e)
    where
      go : (b : Bool) → else_refused b KeyLength ≡ None → b ≡ true
      go true e = refl
      go false e = cc

-- a key may have any version where it has what version 1 needs
pub of_any_version : (is_0 has : Bool) → has ≡ true → else_refused (is_0 || has) VersionRule ≡ None
of_any_version true has e = refl
of_any_version false has e = ap (λ b. else_refused b VersionRule) e

-- an RSA private key of ten fields may have any version
pub rsa_of_more : (a b c d e f g h i j : Value)
    → rsa_version_rule []
    (Sequence (universal 16) (values_of (a ∷ b ∷ c ∷ d ∷ e ∷ f ∷ g ∷ h ∷ i ∷ j ∷ []))) ≡ None
rsa_of_more a b c d e f g h i j =
    of_any_version (leaf_is_one_of first_field (version_0 ∷ []) (a ∷ b ∷ c ∷ d ∷ e ∷ f ∷ g ∷ h ∷ i ∷ j ∷ [])) true refl
