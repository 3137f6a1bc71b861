-- Which versions of a OneAsymmetricKey have a public key.
use Rattle.std.proofs.Common.{◌≡◌, ◌∙◌, ◌++◌, ◌&&◌, ◌||◌, ◌==◌, ◌∷◌, Bool, List, None, Option, Some, [], ap, arith, false, length, not, refl, subst, sym, true, ℕ}
use Rattle.std.proofs.lemmas.Bool.Decides.{nat_tests}
use Rattle.std.specs.Option.{is_some, option_map}
use Rattle.tlv_core.specs.Identifier.{Tag}
use Rattle.tlv_core.specs.declared.reason.Reason.TheVariants.{VersionRule}
use Rattle.x690.specs.Layouts.{context_specific, same_tag, universal}
use Rattle.x690.specs.Lists.{one_of}
use Rattle.x690.specs.Values.{Leaf, Sequence, Value, Values, leaf_at, value_tag, values_of}
use Rattle.x690_laws.proofs.ReadingLayoutsSound.{same_tag_is}
use Rattle.pkix_definitions.specs.DocumentTypes.{private_key, public_key}
use Rattle.pkix_definitions.specs.Rules.{else_refused, key_version_rule, with_tag}
use Rattle.asn_fields.specs.Apart.{fits_one, may_begin}
use Rattle.asn_fields.specs.FieldReadings.{with_field}
use Rattle.asn_fields.specs.declared.either.Either.{Either}
use Rattle.asn_fields.specs.declared.either.Either.TheVariants.{First, Second}
use Rattle.asn_fields.specs.Dependents.{suits_as, suits_where_there}
use Rattle.asn_elements.specs.declared.bits.Bits.{Bits}
use Rattle.pkcs8.specs.Seen.{PublicKey, bits_in, bits_of}

pub both_first : (a b : Bool) → (a && b) ≡ true → a ≡ true
both_first true b e = refl
both_first false b e = cc

pub both_second : (a b : Bool) → (a && b) ≡ true → b ≡ true
both_second true b e = e
both_second false b e = cc

any_of_four : (b : Bool) → (b || (b || (b || b))) ≡ true → b ≡ true
any_of_four true e = refl
any_of_four false e = cc

any_of_two : (b : Bool) → (b || b) ≡ true → b ≡ true
any_of_two true e = refl
any_of_two false e = cc

pub passes_where : (b : Bool) → else_refused b VersionRule ≡ None → b ≡ true
passes_where true e = refl
passes_where false e = cc

-- under [1]
abbrev one : Tag
one = context_specific 1

abbrev there : List Value → Bool
there vs = not (length {A = Value} (with_tag one vs) == 0)

passed : (v : Value) (vs : List Value) → same_tag one (value_tag v) ≡ false → there (v ∷ vs) ≡ there vs
passed v vs e =
    ap (λ b. not (length {A = Value} (elim b [ true ↦ v ∷ with_tag one vs | false ↦ with_tag one vs ]) == 0)) e

met : (v : Value) → same_tag one (value_tag v) ≡ true → there (v ∷ []) ≡ true
met v e = ap (λ b. not (length {A = Value} (elim b [ true ↦ v ∷ [] | false ↦ [] ]) == 0)) e

-- a private key is an OCTET STRING
key_elsewhere : (t : Tag) → same_tag (universal 4) t ≡ true → same_tag one t ≡ false
key_elsewhere t e = subst (λ u. same_tag one u ≡ false) (same_tag_is (universal 4) t e) refl

module _ {A P : Type 0} (f : A → Value) (g : P → Value) (number : ℕ) (algorithm : Values) (k : Value) where
  abbrev fields : Option A → Option P → List Value
  fields a p =
      (((Leaf (universal 2) (number ∷ []) ∷ Sequence (universal 16) algorithm ∷ []) ++ (k ∷ []))
      ++ with_field (option_map f a) [])
      ++ with_field (option_map g p) []

  abbrev is_0 : Bool
  is_0 = one_of (number ∷ []) ((0 ∷ []) ∷ [])

  there_is : ((x : A) → same_tag one (value_tag (f x)) ≡ false) → same_tag one (value_tag k) ≡ false
      → (a : Option A) (p : Option P) → fits_one public_key (option_map g p) ≡ true
      → there (k ∷ (with_field (option_map f a) [] ++ with_field (option_map g p) [])) ≡ is_some p
  there_is off e None None h = passed k [] e
  there_is off e None (Some y) h = passed k (g y ∷ []) e ∙ met (g y) (any_of_two _ h)
  there_is off e (Some x) None h = passed k (f x ∷ []) e ∙ passed (f x) [] (off x)
  there_is off e (Some x) (Some y) h =
      passed k (f x ∷ g y ∷ []) e ∙ passed (f x) (g y ∷ []) (off x) ∙ met (g y) (any_of_two _ h)

  rule_is : (a : Option A) (p : Option P)
      → key_version_rule [] (Sequence (universal 16) (values_of (fields a p)))
      ≡ else_refused
      (is_0 || there (k ∷ (with_field (option_map f a) [] ++ with_field (option_map g p) []))) VersionRule
  unfolding leaf_at
  rule_is None None = refl
  rule_is None (Some y) = refl
  rule_is (Some x) None = refl
  rule_is (Some x) (Some y) = refl

  pub version_judged : ((x : A) → same_tag one (value_tag (f x)) ≡ false)
      → (head others : Bool) (a : Option A) (p : Option P) (b c : Bool)
      → (((head && may_begin private_key (value_tag k)) && others) && fits_one public_key (option_map g p)) ≡ true
      → one_of (number ∷ []) ((0 ∷ []) ∷ []) ≡ b → is_some p ≡ c
      → key_version_rule [] (Sequence (universal 16) (values_of (fields a p))) ≡ else_refused (b || c) VersionRule
  version_judged off head others a p b c known e h =
      let first : ((head && may_begin private_key (value_tag k)) && others) ≡ true = both_first _ _ known in
      let begins : may_begin private_key (value_tag k) ≡ true = both_second head _ (both_first _ _ first) in
      let elsewhere = key_elsewhere (value_tag k) (any_of_four _ begins) in
      rule_is a p
      ∙ ap (λ z. else_refused (is_0 || z) VersionRule)
      (there_is off elsewhere a p (both_second ((head && may_begin private_key (value_tag k)) && others) _ known))
      ∙ ap (λ z. else_refused (z || is_some p) VersionRule) e ∙ ap (λ z. else_refused (b || z) VersionRule) h

  pub version_passes : ((x : A) → same_tag one (value_tag (f x)) ≡ false)
      → (head others : Bool) (a : Option A) (p : Option P)
      → (((head && may_begin private_key (value_tag k)) && others) && fits_one public_key (option_map g p)) ≡ true
      → key_version_rule [] (Sequence (universal 16) (values_of (fields a p))) ≡ None → (is_0 || is_some p) ≡ true
  version_passes off head others a p known judged =
      passes_where _ (sym (version_judged off head others a p is_0 (is_some p) known refl refl) ∙ judged)

-- a number that is 0 or 1, by whether it is 0
pub is_1 : (number : ℕ) → one_of (number ∷ []) ((0 ∷ []) ∷ (1 ∷ []) ∷ []) ≡ true
    → not (one_of (number ∷ []) ((0 ∷ []) ∷ [])) ≡ (number == 1)
is_1 number e = grind (arith, nat_tests)

absent : (b : Bool) → (b || false) ≡ true → false ≡ not b
absent true e = refl
absent false e = cc

pub shown_where_there : {A B : Type 0} (f : A → B) (o : Option A) → is_some o ≡ is_some (option_map f o)
shown_where_there f None = refl
shown_where_there f (Some x) = refl

-- What stands in place of a public key and suits the version is one exactly where the version isn't 0.
module _ {X Y : Type 0} (first : X → Bool) (second : Y → Bool) (bits : Y → Bits) where
  abbrev pub seen : Either X Y → Option Bits
  seen e = elim e [ First x ↦ None | Second y ↦ Some (bits y) ]

  pub seen_by_version : (is_0 : Bool) (e : Either X Y) → suits_as is_0 first second e ≡ true
      → is_some (seen e) ≡ not is_0
  seen_by_version true (First x) h = refl
  seen_by_version false (First x) h = cc
  seen_by_version true (Second y) h = cc
  seen_by_version false (Second y) h = refl

pub stands_by : (is_0 : Bool) (suits : PublicKey → Bool) (field : Option PublicKey)
    → suits_where_there suits field ≡ true → ((key : PublicKey) → suits key ≡ true → is_some (bits_in key) ≡ not is_0)
    → (is_0 || is_some field) ≡ true
    → is_some (bits_of field) ≡ not is_0
stands_by first suits None h tells passes = absent first passes
stands_by first suits (Some key) h tells passes = tells key h
