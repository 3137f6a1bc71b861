-- Contents that pass their test are those of a leaf.
use Rattle.std.proofs.Common.{◌≡◌, ℕ, ◌+◌, ◌-◌, ◌*◌, ◌<◌, ◌≤◌, ◌≢◌, ◌==◌, ◌&&◌, ◌||◌, nat_lt, nat_le, not, Bool, true, false, List, [], ◌∷◌, ◌++◌, flat_map, length, refl, sym, ◌∙◌, ap, ap₂, subst, append_assoc, append-nil, arith}
use Rattle.std.proofs.lemmas.Bool.Decides.{nat_tests}
use Rattle.std.proofs.lemmas.Str.{IsUtf8-from_is_utf8}
use Rattle.tlv_core.proofs.Digits.{leading_none}
use Rattle.x690_laws.proofs.ReadingHeadersSound.{both_true, one_more, last_digit}
use Rattle.tlv_core.specs.Identifier.{Tag, base128, leading_base128}
use Rattle.x690.specs.Contents.{BitString, Boolean, Integer, IsBitSegment, IsInteger, LeafContents, LeafKind, Null, ObjectIdentifier, OctetString, Segmented, Utf8String, segments}
use Rattle.x690.specs.Layouts.{Primitive}
use Rattle.tlv_core.specs.ObjectIdentifier.{AllBelow}
use Rattle.tlv_core.specs.ObjectIdentifier.{ObjectIdentifierOctets}
use Rattle.x690.specs.ReadContents.{der_contents, is_bit_segment, is_contents, is_integer_contents, is_object_identifier, is_subidentifiers}

pub either_true : (a b : Bool) → not a || b ≡ true → a ≡ true → b ≡ true
either_true true true h e = refl
either_true true false h e = cc
either_true false b h e = cc

pub integer_fits : (o : List ℕ) → is_integer_contents o ≡ true → IsInteger o
integer_fits [] h = cc
integer_fits (x ∷ []) h = tt
integer_fits (x ∷ y ∷ s) h =
    let a = both_true _ _ h in (
      λ e.
          let t : (x == 0) ≡ true = grind (arith, nat_tests) in
          let u : nat_le 128 y ≡ true = either_true _ _ a.0 t in
          grind (arith, nat_tests),
      λ e.
          let t : (x == 255) ≡ true = grind (arith, nat_tests) in
          let u : nat_lt y 128 ≡ true = either_true _ _ a.1 t in
          grind (arith, nat_tests),
    )

pub segment_fits : (o : List ℕ) → is_bit_segment o ≡ true → IsBitSegment o
segment_fits [] h = cc
segment_fits (u ∷ []) h =
    let h' : (u == 0) ≡ true = h in let e : u ≡ 0 = grind (arith, nat_tests) in (omega arith, λ z. e)
segment_fits (u ∷ x ∷ s) h = let h' : nat_le u 7 ≡ true = h in (grind (arith, nat_tests), λ z. cc)

abbrev Big : ℕ
Big = 340282366920938463463374607431768211456

not_lead : (n x : ℕ) → 128 ≤ x → not ((n == 0) && (x == 128)) ≡ true → n * 128 + (x - 128) ≢ 0
not_lead n x h t z =
    let a : n ≡ 0 = omega arith in
    let b : x ≡ 128 = omega arith in
    let t' = subst (λ w. not ((w == 0) && (x == 128)) ≡ true) a t in
    let t'' = subst (λ w. not ((0 == 0) && (w == 128)) ≡ true) b t' in
    cc

-- numbers whose texts are the octets, after those of what stands before
pub record Arcs (n : ℕ) (s : List ℕ) : Type 0 where
  pub all : List ℕ
  pub below : AllBelow Big all
  pub is : leading_base128 n n ++ s ≡ flat_map base128 all

arcs_fit : (n : ℕ) (s : List ℕ) → is_subidentifiers n s ≡ true → Arcs n s
unfolding is_subidentifiers
arcs_fit n [] h =
    let h' : (n == 0) ≡ true = h in
    let z : n ≡ 0 = grind (arith, nat_tests) in
    record { all = []; below = tt; is = append-nil _ ∙ leading_none n n z }
arcs_fit n (x ∷ s) h =
    let a = both_true _ _ h in
    let b = both_true _ _ a.0 in
    go (nat_lt x 128) refl b.0 b.1 a.1 (λ e. arcs_fit 0 s e) (λ e. arcs_fit (n * 128 + (x - 128)) s e)
  where
    go : (c : Bool) → nat_lt x 128 ≡ c → not ((n == 0) && (x == 128)) ≡ true → nat_lt x 256 ≡ true
        → elim c [
          | true ↦ nat_lt (n * 128 + x) Big && is_subidentifiers 0 s
          | false ↦ is_subidentifiers (n * 128 + (x - 128)) s
        ]
        ≡ true
        → (is_subidentifiers 0 s ≡ true → Arcs 0 s)
        → (is_subidentifiers (n * 128 + (x - 128)) s ≡ true → Arcs (n * 128 + (x - 128)) s) → Arcs n (x ∷ s)
    go true c t u h ih ih' =
        let a = both_true _ _ h in
        let i = ih a.1 in
        let lt : x < 128 = grind (arith, nat_tests) in
        let a0 : nat_lt (n * 128 + x) Big ≡ true = a.0 in
        let e : s ≡ flat_map base128 i.all = sym (ap (λ v. v ++ s) (leading_none 0 0 refl)) ∙ i.is in
        record {
          all = (n * 128 + x) ∷ i.all;
          below = (grind (arith, nat_tests), i.below);
          is = sym (append_assoc (leading_base128 n n) (x ∷ []) s) ∙ ap₂ (λ v w. v ++ w) (sym (last_digit n x lt)) e;
        }
    go false c t u h ih ih' =
        let i = ih' h in
        let ge : 128 ≤ x = grind (arith, nat_tests) in
        let lt : x < 256 = grind (arith, nat_tests) in
        record {
          all = i.all;
          below = i.below;
          is =
              sym (append_assoc (leading_base128 n n) (x ∷ []) s)
              ∙ ap (λ v. v ++ s) (sym (one_more n x ge lt (not_lead n x ge t)))
              ∙ i.is;
        }

-- the first subidentifier, as two arcs
two_arcs : (n a b : ℕ) (ns o : List ℕ) → a ≤ 2 → (a < 2 → b < 40) → 40 * a + b ≡ n → AllBelow Big (n ∷ ns)
    → o ≡ flat_map base128 (n ∷ ns) → (arcs : List ℕ) × ObjectIdentifierOctets arcs o
two_arcs n a b ns o h g e l q =
    (a ∷ b ∷ ns, (h, g, subst (λ m. AllBelow Big (m ∷ ns)) (sym e) l, q ∙ ap (λ m. flat_map base128 (m ∷ ns)) (sym e)))

some_arcs : (all o : List ℕ) → (o ≡ [] → ⊥) → AllBelow Big all → o ≡ flat_map base128 all
    → (arcs : List ℕ) × ObjectIdentifierOctets arcs o
some_arcs [] o z b e = absurd (z e)
some_arcs (n ∷ ns) o z b e = go (nat_lt n 40) refl (nat_lt n 80) refl
  where
    go : (c : Bool) → nat_lt n 40 ≡ c → (c' : Bool) → nat_lt n 80 ≡ c' → (arcs : List ℕ) × ObjectIdentifierOctets arcs o
    go true c c' d =
        let lt : n < 40 = grind (arith, nat_tests) in two_arcs n 0 n ns o (omega arith) (λ z. lt) (omega arith) b e
    go false c true d =
        let ge : 40 ≤ n = grind (arith, nat_tests) in
        let lt : n < 80 = grind (arith, nat_tests) in
        two_arcs n 1 (n - 40) ns o (omega arith) (λ z. omega arith) (omega arith) b e
    go false c false d =
        let ge : 80 ≤ n = grind (arith, nat_tests) in
        two_arcs n 2 (n - 80) ns o (omega arith) (λ z. absurd (omega arith)) (omega arith) b e

object_identifier_fits : (o : List ℕ) → is_object_identifier o ≡ true → (arcs : List ℕ) × ObjectIdentifierOctets arcs o
object_identifier_fits [] h = cc
object_identifier_fits (x ∷ s) h =
    let a = arcs_fit 0 (x ∷ s) h in
    some_arcs a.all (x ∷ s) (λ z. cc) a.below (sym (ap (λ v. v ++ (x ∷ s)) (leading_none 0 0 refl)) ∙ a.is)

-- Contents that pass the test are a leaf's.
pub contents_fit : (k : LeafKind) (t : Tag) (o : List ℕ) → is_contents k o ≡ true
    → LeafContents k (Primitive t o) (der_contents k o)
unfolding LeafContents segments Segmented
contents_fit Boolean t o h = let h' : (length o == 1) ≡ true = h in (grind (arith, nat_tests), refl)
contents_fit Integer t o h = (integer_fits o h, refl)
contents_fit Null t o h = (no_length o h, refl)
  where
    no_length : (o : List ℕ) → (length o == 0) ≡ true → o ≡ []
    no_length [] h = refl
    no_length (x ∷ s) h = absurd (let z : length (x ∷ s) ≡ 0 = grind (arith, nat_tests) in omega arith)
contents_fit ObjectIdentifier t o h = (object_identifier_fits o h, refl)
contents_fit BitString t o h = record { segmented = tt; each = segment_fits o h; is = refl }
contents_fit OctetString t o h = record { segmented = tt; is = sym (append-nil o) }
contents_fit Utf8String t o h = (record { segmented = tt; is = sym (append-nil o) }, IsUtf8-from_is_utf8 o h)
