-- The rules over the types of documents are fair.
use Rattle.std.proofs.Common.{Bool, List, Option, [], ap, ap₂, false, length, not, refl, suc, true, zero, ℕ, ◌&&◌, ◌-◌, ◌==◌, ◌||◌, ◌∷◌, ◌≡◌}
use Rattle.tlv_core.specs.Identifier.{Tag}
use Rattle.tlv_core.specs.declared.reason.Reason.TheVariants.{Curve, KeyLength, Parameters, Version, VersionRule}
use Rattle.tlv_core.specs.declared.reason.Reason.{Reason}
use Rattle.x690.specs.Layouts.{context_specific, same_tag, universal}
use Rattle.x690.specs.Lists.{Each, one_of, same_octets}
use Rattle.x690.specs.Premises.{FairRule}
use Rattle.x690.specs.Values.{Leaf, Same, Sequence, SetOf, Value, sequence_members, value_tag}
use Rattle.x690_laws.proofs.ReadingComplete.{each_length}
use Rattle.x690_laws.proofs.ValuesOfTrees.{leaf_at_same, members_same, octets_same}
use Rattle.pkix_definitions.specs.Identifiers.{curve_lengths, ec_public_key, entry_under, rfc8410_algorithms, rfc8410_lengths}
use Rattle.pkix_definitions.specs.Rules.{container_curve, ec_length, ec_parameters_rule, ec_rule, else_refused, has_length, inner_curve_rule, inner_ec_rule, is_identifier, key_bits_rule, key_version_rule, no_unused, nth_is_identifier, own_curve, parameters_rule, rsa_version_rule, version_rule, with_tag}

tag_same : (v w : Value) → Same v w → value_tag v ≡ value_tag w
unfolding Same
tag_same (Leaf t o) (Leaf u p) h = h.0
tag_same (Leaf t o) (Sequence u ws) h = absurd h
tag_same (Leaf t o) (SetOf u ws) h = absurd h
tag_same (Sequence t vs) (Leaf u p) h = absurd h
tag_same (Sequence t vs) (Sequence u ws) h = h.0
tag_same (Sequence t vs) (SetOf u ws) h = absurd h
tag_same (SetOf t vs) (Leaf u p) h = absurd h
tag_same (SetOf t vs) (Sequence u ws) h = absurd h
tag_same (SetOf t vs) (SetOf u ws) h = h.0

is_identifier_same : (v w : Value) → Same v w → is_identifier v ≡ is_identifier w
unfolding Same
is_identifier_same (Leaf t o) (Leaf u p) h = ap (same_tag (universal 6)) h.0
is_identifier_same (Leaf t o) (Sequence u ws) h = absurd h
is_identifier_same (Leaf t o) (SetOf u ws) h = absurd h
is_identifier_same (Sequence t vs) (Leaf u p) h = absurd h
is_identifier_same (Sequence t vs) (Sequence u ws) h = refl
is_identifier_same (Sequence t vs) (SetOf u ws) h = absurd h
is_identifier_same (SetOf t vs) (Leaf u p) h = absurd h
is_identifier_same (SetOf t vs) (Sequence u ws) h = absurd h
is_identifier_same (SetOf t vs) (SetOf u ws) h = refl

nth_is_identifier_same : (n : ℕ) (vs ws : List Value) → Each Same vs ws
    → nth_is_identifier n vs ≡ nth_is_identifier n ws
nth_is_identifier_same n [] [] h = refl
nth_is_identifier_same n [] (w ∷ ws) h = absurd h
nth_is_identifier_same n (v ∷ vs) [] h = absurd h
nth_is_identifier_same zero (v ∷ vs) (w ∷ ws) h = is_identifier_same v w h.0
nth_is_identifier_same (suc n) (v ∷ vs) (w ∷ ws) h = nth_is_identifier_same n vs ws h.1

with_tag_same : (t : Tag) (vs ws : List Value) → Each Same vs ws → Each Same (with_tag t vs) (with_tag t ws)
with_tag_same t [] [] h = tt
with_tag_same t [] (w ∷ ws) h = absurd h
with_tag_same t (v ∷ vs) [] h = absurd h
with_tag_same t (v ∷ vs) (w ∷ ws) h =
    go (same_tag t (value_tag v)) (same_tag t (value_tag w)) (ap (same_tag t) (tag_same v w h.0))
    (with_tag_same t vs ws h.1)
  where
    go : (a b : Bool) → a ≡ b → Each Same (with_tag t vs) (with_tag t ws)
        → Each Same (elim a [ true ↦ v ∷ with_tag t vs | false ↦ with_tag t vs ])
        (elim b [ true ↦ w ∷ with_tag t ws | false ↦ with_tag t ws ])
    go true true e i = (h.0, i)
    go true false e i = cc
    go false true e i = cc
    go false false e i = i

pub fair_version : (allowed : List (List ℕ)) → FairRule (version_rule allowed)
fair_version allowed earlier earlier' v w es s = ap (λ o. else_refused (one_of o allowed) Version) (octets_same v w s)

pub fair_parameters : FairRule parameters_rule
fair_parameters earlier earlier' v w es s =
    let r = members_same v w s in
    ap₂ (λ (o : List ℕ) (n : ℕ). else_refused (not (one_of o rfc8410_algorithms) || (n == 1)) Parameters)
    (leaf_at_same (0 ∷ []) (sequence_members v) (sequence_members w) r)
    (each_length (sequence_members v) (sequence_members w) r)

pub fair_ec_parameters : FairRule ec_parameters_rule
fair_ec_parameters earlier earlier' v w es s =
    let r = members_same v w s in
    ap₂ (λ (o : List ℕ) (b : Bool). else_refused (not (one_of o (ec_public_key ∷ [])) || b) Parameters)
    (leaf_at_same (0 ∷ []) (sequence_members v) (sequence_members w) r)
    (nth_is_identifier_same 1 (sequence_members v) (sequence_members w) r)

pub fair_key_bits : (path : List ℕ) → FairRule (key_bits_rule path)
fair_key_bits path earlier earlier' v w es s =
    ap₂ (λ (p : List ℕ) (o : List ℕ).
    else_refused
    (not (one_of p rfc8410_algorithms) || (has_length (entry_under rfc8410_lengths p) (length o - 1) && no_unused o))
    KeyLength)
    (leaf_at_same path earlier earlier' es) (octets_same v w s)

own_curve_same : (v w : Value) → Same v w → own_curve v ≡ own_curve w
own_curve_same v w s =
    leaf_at_same (0 ∷ 0 ∷ []) (with_tag (context_specific 0) (sequence_members v))
    (with_tag (context_specific 0) (sequence_members w))
    (with_tag_same (context_specific 0) (sequence_members v) (sequence_members w) (members_same v w s))

ec_length_same : (c c' : List ℕ) (v w : Value) → c ≡ c' → Same v w → ec_length c v ≡ ec_length c' w
ec_length_same c c' v w e s =
    ap₂ (λ a o. ec_length_of a o) e
    (leaf_at_same (1 ∷ []) (sequence_members v) (sequence_members w) (members_same v w s))
  where
    ec_length_of : List ℕ → List ℕ → Bool
    ec_length_of a o = has_length (entry_under curve_lengths a) (length o)

pub fair_ec : FairRule ec_rule
fair_ec earlier earlier' v w es s =
    ap (λ b. else_refused b KeyLength) (ec_length_same (own_curve v) (own_curve w) v w (own_curve_same v w s) s)

pub fair_inner_curve : FairRule inner_curve_rule
fair_inner_curve earlier earlier' v w es s =
    ap₂ (λ (p : List ℕ) (o : List ℕ). else_refused (has_length (entry_under rfc8410_lengths p) (length o)) KeyLength)
    (leaf_at_same (1 ∷ 0 ∷ []) earlier earlier' es) (octets_same v w s)

container_curve_same : (vs ws : List Value) → Each Same vs ws → container_curve vs ≡ container_curve ws
container_curve_same vs ws s =
    ap₂ (λ (a : List ℕ) (c : List ℕ). elim (one_of a (ec_public_key ∷ [])) [ true ↦ c | false ↦ [] ])
    (leaf_at_same (1 ∷ 0 ∷ []) vs ws s) (leaf_at_same (1 ∷ 1 ∷ []) vs ws s)

pub fair_inner_ec : FairRule inner_ec_rule
fair_inner_ec earlier earlier' v w es s =
    let c = container_curve_same earlier earlier' es in
    let o = own_curve_same v w s in
    ap₂ (λ (a : List ℕ) (b : Option Reason × Option Reason). elim (length a == 0) [ false ↦ b.0 | true ↦ b.1 ]) o
    (ap₂ (λ a b. (a, b))
    (ap₂ (λ a b. else_refused (same_octets a b) Curve) o c)
    (ap (λ b. else_refused b KeyLength) (ec_length_same (container_curve earlier) (container_curve earlier') v w c s)))

pub fair_key_version : FairRule key_version_rule
fair_key_version earlier earlier' v w es s =
    let r = members_same v w s in
    ap₂ (λ (o : List ℕ) (n : ℕ). else_refused (one_of o ((0 ∷ []) ∷ []) || not (n == 0)) VersionRule)
    (leaf_at_same (0 ∷ []) (sequence_members v) (sequence_members w) r)
    (each_length (with_tag (context_specific 1) (sequence_members v))
    (with_tag (context_specific 1) (sequence_members w))
    (with_tag_same (context_specific 1) (sequence_members v) (sequence_members w) r))

pub fair_rsa_version : FairRule rsa_version_rule
fair_rsa_version earlier earlier' v w es s =
    let r = members_same v w s in
    ap₂ (λ (o : List ℕ) (n : ℕ). else_refused (one_of o ((0 ∷ []) ∷ []) || n == 10) VersionRule)
    (leaf_at_same (0 ∷ []) (sequence_members v) (sequence_members w) r)
    (each_length (sequence_members v) (sequence_members w) r)
