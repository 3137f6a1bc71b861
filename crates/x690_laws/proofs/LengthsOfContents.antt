-- How many octets contents have: texts that are joined and arranged, leaves, and the segments of strings.
use Rattle.std.proofs.Common.{◌≡◌, ℕ, ◌+◌, ◌≤◌, ◌==◌, max, ◌⊎◌, inl, ⊎_elim, cond, Bool, true, false, List, [], ◌∷◌, ◌++◌, length, refl, sym, ◌∙◌, ap, append_assoc, arith}
use Rattle.std.proofs.lemmas.List.{length-append}
use Rattle.x690_laws.proofs.LengthsOfHeaders.{definite_length, indefinite_length}
use Rattle.x690.specs.Contents.{BitString, Boolean, Integer, LeafContents, LeafKind, Null, ObjectIdentifier, OctetString, Utf8String, all_segments, bit_octets, boolean_contents, clear_unused, segments, unused_bits}
use Rattle.x690.specs.DerTexts.{arrange, der, insert_text, padded_less, texts_of}
use Rattle.x690.specs.Layouts.{AllLaidOut, Constructed, Definite, FirstTree, Indefinite, LaidOut, NoTrees, Primitive, RawTree, RawTrees, tree_tag}
use Rattle.x690.specs.Lists.{Picked, join}
use Rattle.x690.specs.Values.{Value}

-- lists that are joined

pub joined_append : (s t : List (List ℕ)) → join (s ++ t) ≡ join s ++ join t
joined_append [] t = refl
joined_append (x ∷ s) t = ap (λ y. x ++ y) (joined_append s t) ∙ sym (append_assoc x (join s) (join t))

insert_length : (x : List ℕ) (ys : List (List ℕ)) → length (join (insert_text x ys)) ≡ length x + length (join ys)
unfolding insert_text
insert_length x [] = length-append x []
insert_length x (y ∷ ys) =
    elim (padded_less x y) as
    (λ b. length (join (cond b (x ∷ y ∷ ys) (y ∷ insert_text x ys))) ≡ length x + length (join (y ∷ ys))) [
      | true ↦ length-append x (y ++ join ys)
      | false ↦ omega (arith, insert_length x ys, length-append y (join ys), length-append y (join (insert_text x ys)))
    ]

pub arranged_length : (xs : List (List ℕ)) → length (join (arrange xs)) ≡ length (join xs)
unfolding arrange
arranged_length [] = refl
arranged_length (x ∷ xs) = omega (arith, insert_length x (arrange xs), arranged_length xs, length-append x (join xs))

-- a text that is picked, and the others
pub picked_length : (v : Value) (vs rest : List Value) → Picked v vs rest
    → length (texts_of vs) ≡ length (der v) + length (texts_of rest)
picked_length v [] rest p = absurd p
picked_length v (w ∷ vs) rest p = ⊎_elim
    (λ a.
    omega (arith, length-append (der w) (texts_of vs), ap (λ x. length (der x)) a.0, ap (λ x. length (texts_of x)) a.1))
    (λ a. omega (
      arith,
      length-append (der w) (texts_of vs),
      length-append (der w) (texts_of a.0),
      picked_length v vs a.0 a.2,
      ap (λ x. length (texts_of x)) a.1,
    ))
    p

-- the contents of a leaf, against those of its segments

bit_octets_length : (s : List (List ℕ)) → length (bit_octets s) ≤ length (join s)
bit_octets_length [] = omega arith
bit_octets_length ([] ∷ s) = bit_octets_length s
bit_octets_length ((u ∷ o) ∷ s) =
    omega (arith, bit_octets_length s, length-append o (bit_octets s), length-append (u ∷ o) (join s))

-- an octet for the unused bits stands in each segment that has any
bits_length : (s : List (List ℕ)) → length (bit_octets s) + 1 ≤ max 1 (length (join s))
bits_length [] = omega arith
bits_length ([] ∷ s) = bits_length s
bits_length ((u ∷ o) ∷ s) =
    omega (arith, bit_octets_length s, length-append o (bit_octets s), length-append (u ∷ o) (join s))

clear_length : (u : ℕ) (o : List ℕ) → length (clear_unused u o) ≡ length o
clear_length u [] = refl
clear_length u (x ∷ []) = refl
clear_length u (x ∷ y ∷ s) = omega (arith, clear_length u (y ∷ s))

boolean_length : (c : List ℕ) → length (boolean_contents c) ≤ 1
boolean_length [] = omega arith
boolean_length (x ∷ s) = elim (x == 0) as
    (λ b. let y : List ℕ = elim b [ true ↦ 0 ∷ [] | false ↦ 255 ∷ [] ] in length y ≤ 1) [
      | true ↦ omega arith
      | false ↦ omega arith
    ]

pub leaf_length : (k : LeafKind) (r : RawTree) (o : List ℕ) → LeafContents k r o
    → length o ≤ max 1 (length (join (segments r)))
unfolding LeafContents segments
leaf_length Boolean (Primitive t c) o h = omega (arith, ap length h.1, boolean_length c)
leaf_length Boolean (Constructed t rs) o h = absurd h
leaf_length Integer (Primitive t c) o h = omega (arith, ap length h.1, length-append c [])
leaf_length Integer (Constructed t rs) o h = absurd h
leaf_length Null (Primitive t c) o h = omega (arith, ap length h.1, length-append c [])
leaf_length Null (Constructed t rs) o h = absurd h
leaf_length ObjectIdentifier (Primitive t c) o h = omega (arith, ap length h.1, length-append c [])
leaf_length ObjectIdentifier (Constructed t rs) o h = absurd h
leaf_length BitString r o h = omega
    (arith, ap length h.is, clear_length (unused_bits (segments r)) (bit_octets (segments r)), bits_length (segments r))
leaf_length OctetString r o h = omega (arith, ap length h.is)
leaf_length Utf8String r o h = omega (arith, ap length h.0.is)

pub octets_are : (r : RawTree) (o : List ℕ) → LeafContents OctetString r o → o ≡ join (segments r)
unfolding LeafContents
octets_are r o h = h.is

-- The contents of an element as they are laid out, which hold the contents of its segments.
pub record Frame (r : RawTree) (b : List ℕ) : Type 0 where
  pub form : Bool
  pub contents : List ℕ
  pub framed : Definite (tree_tag r) form contents b ⊎ Indefinite (tree_tag r) contents b
  pub holds : length (join (segments r)) ≤ length contents

pub framed_length : (r : RawTree) (b : List ℕ) (f : Bool) (c : List ℕ)
    → Definite (tree_tag r) f c b ⊎ Indefinite (tree_tag r) c b → length c ≤ length b
framed_length r b f c h =
    ⊎_elim (λ a. omega (arith, definite_length (tree_tag r) f c b a))
    (λ a. omega (arith, indefinite_length (tree_tag r) c b a)) h

mutual
  unfolding LaidOut segments

  pub frame : (r : RawTree) (b : List ℕ) → LaidOut r b → Frame r b
  frame (Primitive t o) b h =
      record { form = false; contents = o; framed = inl h.1; holds = omega (arith, length-append o []) }
  frame (Constructed t rs) b h =
      record { form = true; contents = h.1.0; framed = h.1.2; holds = segments_within rs h.1.0 h.1.1 }

  pub segments_within : (rs : RawTrees) (c : List ℕ) → AllLaidOut rs c → length (join (all_segments rs)) ≤ length c
  segments_within NoTrees c h = omega arith
  segments_within (FirstTree r rs) c h =
      let a = frame r h.0 h.2 in
      omega (
        arith,
        ap length (joined_append (segments r) (all_segments rs)),
        length-append (join (segments r)) (join (all_segments rs)),
        segments_within rs h.1 h.3,
        a.holds,
        framed_length r h.0 a.form a.contents a.framed,
        ap length h.4,
        length-append h.0 h.1,
      )
