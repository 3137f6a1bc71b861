-- Values as lists of numbers, which give them back: what a model needs whose value is a Value.
use Rattle.std.proofs.Common.{ap, ◌∙◌}
use Rattle.std.specs.Coded.{Coded, code_by, coded_list, coded_ℕ, coded×}
use Rattle.std.specs.Prelude.{List, [], refl, suc, zero, ℕ, ◌∷◌, ◌≡◌}
use Rattle.tlv_core.specs.Identifier.{Tag}
use Rattle.x690.specs.Values.{FirstMember, Leaf, NoMembers, Sequence, SetOf, Value, Values}

-- what it is (0 a leaf, 1 a list, 2 a multiset, 3 the end of one), the tag, the octets
abbrev pub Token : Type 0
Token = ℕ × (ℕ × (ℕ × List ℕ))

abbrev mutual
  pub tokens : Value → List Token → List Token
  tokens (Leaf t o) k = (0, (t.class, (t.number, o))) ∷ k
  tokens (Sequence t vs) k = (1, (t.class, (t.number, []))) ∷ all_tokens vs ((3, (0, (0, []))) ∷ k)
  tokens (SetOf t vs) k = (2, (t.class, (t.number, []))) ∷ all_tokens vs ((3, (0, (0, []))) ∷ k)

  pub all_tokens : Values → List Token → List Token
  all_tokens NoMembers k = k
  all_tokens (FirstMember v vs) k = tokens v (all_tokens vs k)

-- the members read so far of the innermost container, and of those around it
abbrev pub Stack : Type 0
Stack = Values × List Values

abbrev pub closed : (Values → Value) → Values → List Values → Stack
closed f vs [] = (vs, [])
closed f vs (top ∷ rest) = (FirstMember (f vs) top, rest)

abbrev pub step : ℕ → Tag → List ℕ → Stack → Stack
step zero t o s = (FirstMember (Leaf t o) s.0, s.1)
step (suc zero) t o s = closed (Sequence t) s.0 s.1
step (suc (suc zero)) t o s = closed (SetOf t) s.0 s.1
step (suc (suc (suc n))) t o s = (NoMembers, s.0 ∷ s.1)

abbrev pub build : List Token → Stack
build [] = (NoMembers, [])
build (k ∷ ks) = step k.0 (record { class = k.1.0; number = k.1.1.0 }) k.1.1.1 (build ks)

abbrev pub first_of_values : Values → Value
first_of_values NoMembers = Leaf (record { class = 0; number = 0 }) []
first_of_values (FirstMember v vs) = v

abbrev pub from_tokens : List Token → Value
from_tokens ks = first_of_values (build ks).0

abbrev pub add_all : Values → Values → Values
add_all NoMembers ws = ws
add_all (FirstMember v vs) ws = FirstMember v (add_all vs ws)

add_none : (vs : Values) → add_all vs NoMembers ≡ vs
add_none NoMembers = refl
add_none (FirstMember v vs) = ap (FirstMember v) (add_none vs)

mutual
  build_tokens : (v : Value) (k : List Token) → build (tokens v k) ≡ (FirstMember v (build k).0, (build k).1)
  build_tokens (Leaf t o) k = refl
  build_tokens (Sequence t vs) k =
      ap (λ s. closed (Sequence t) s.0 s.1) (build_all vs ((3, (0, (0, []))) ∷ k))
      ∙ ap (λ x. closed (Sequence t) x ((build k).0 ∷ (build k).1)) (add_none vs)
  build_tokens (SetOf t vs) k =
      ap (λ s. closed (SetOf t) s.0 s.1) (build_all vs ((3, (0, (0, []))) ∷ k))
      ∙ ap (λ x. closed (SetOf t) x ((build k).0 ∷ (build k).1)) (add_none vs)

  build_all : (vs : Values) (k : List Token) → build (all_tokens vs k) ≡ (add_all vs (build k).0, (build k).1)
  build_all NoMembers k = refl
  build_all (FirstMember v vs) k =
      build_tokens v (all_tokens vs k) ∙ ap (λ s. (FirstMember v s.0, s.1)) (build_all vs k)

pub from_tokens-tokens : (v : Value) → from_tokens (tokens v []) ≡ v
from_tokens-tokens v = ap (λ s. first_of_values s.0) (build_tokens v [])

abbrev pub value_code : Coded Value
value_code =
    code_by (List Token) (coded_list (coded× coded_ℕ (coded× coded_ℕ (coded× coded_ℕ (coded_list coded_ℕ)))))
    (λ v. tokens v []) from_tokens from_tokens-tokens
