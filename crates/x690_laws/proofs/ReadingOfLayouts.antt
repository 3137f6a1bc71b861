-- The reading takes what lays out a tree that fits.
use Rattle.std.proofs.Common.{◌≡◌, ℕ, zero, suc, ◌+◌, ◌-◌, ◌*◌, ◌%◌, ◌<◌, ◌≤◌, ◌≢◌, ◌⊎◌, inl, inr, ⊎_elim, ◌==◌, ◌&&◌, ◌||◌, nat_lt, nat_le, not, Bool, true, false, List, [], ◌∷◌, ◌++◌, flat_map, length, Some, refl, sym, ◌∙◌, ap, ap₂, subst, append_assoc, append-nil, arith}
use Rattle.std.proofs.lemmas.Bool.Decides.{nat_tests}
use Rattle.std.proofs.lemmas.List.{length-append}
use Rattle.std.specs.Str.{IsUtf8}
use Rattle.std.proofs.lemmas.Str.{is_utf8-from_IsUtf8}
use Rattle.tlv_core.proofs.Base128.{IsRun, run_value, base128_run, base128_value}
use Rattle.x690_laws.proofs.LayoutsOfHeaders.{identifier_starts}
use Rattle.x690.proofs.Runs.{run_bind}
use Rattle.x690_laws.proofs.ReadingHeadersSound.{Within}
use Rattle.x690_laws.proofs.ReadingLayoutsSound.{Steps}
use Rattle.x690_laws.proofs.ReadingOfHeaders.{require_on, where_on, done_on, at_place, both, within_less, next_on, ends_on, endless_on, length_on, indefinite_on, LeadFits, digits_fit, lead_from, not_lead}
use Rattle.tlv_core.specs.Identifier.{IsTag, Tag, base128, identifier}
use Rattle.tlv_core.specs.Length.{SpellsLength}
use Rattle.tlv_core.specs.Limits.{Limits}
use Rattle.x690.specs.Contents.{BitString, Boolean, Integer, IsBitSegment, IsInteger, LeafContents, LeafKind, Null, ObjectIdentifier, OctetString, Utf8String, segments}
use Rattle.x690.specs.Layouts.{AllLaidOut, Constructed, FirstTree, LaidOut, NoTrees, Primitive, RawTree, RawTrees, tree_depth, tree_tag, trees_depth}
use Rattle.tlv_core.specs.ObjectIdentifier.{AllBelow}
use Rattle.tlv_core.specs.ObjectIdentifier.{ObjectIdentifierOctets}
use Rattle.x690.specs.Points.{Enclosing, EndsAt, EndsWithZeros, past_end, stands_at_end}
use Rattle.x690.specs.ReadContents.{is_bit_segment, is_contents, is_integer_contents, is_object_identifier, is_subidentifiers}
use Rattle.x690.specs.ReadHeaders.{ContainerEnds, DefiniteLength, ElementStands, IndefiniteLength, each_member, entered, in_container, next_tag}
use Rattle.x690.specs.Reading.{Reading, Took, run}

abbrev pub form_of : RawTree → Bool
form_of (Primitive t o) = false
form_of (Constructed t rs) = true

-- the octets of a tree after its identifier
unfoldable pub Behind : RawTree → List ℕ → Type 0
Behind (Primitive t o) y = (length_octets : List ℕ) × SpellsLength (length o) length_octets × (y ≡ length_octets ++ o)
Behind (Constructed t rs) y =
    (c : List ℕ)
    × AllLaidOut rs c
    × (((length_octets : List ℕ) × SpellsLength (length c) length_octets × (y ≡ length_octets ++ c))
    ⊎ (y ≡ 128 ∷ (c ++ (0 ∷ 0 ∷ []))))

pub record Split (x : RawTree) (b : List ℕ) : Type 0 where
  pub tag : IsTag (tree_tag x)
  pub octets : List ℕ
  pub is : b ≡ identifier (tree_tag x) (form_of x) ++ octets
  pub behind : Behind x octets

pub split_lay : (x : RawTree) (b : List ℕ) → LaidOut x b → Split x b
unfolding LaidOut Behind
split_lay (Primitive t o) b h =
    record { tag = h.0; octets = h.1.length_octets ++ o; is = h.1.is; behind = (h.1.length_octets, h.1.spells, refl) }
split_lay (Constructed t rs) b h = ⊎_elim
    (λ a. record {
      tag = h.0;
      octets = a.length_octets ++ h.1.0;
      is = a.is;
      behind = (h.1.0, h.1.1, inl (a.length_octets, a.spells, refl));
    })
    (λ a. record { tag = h.0; octets = 128 ∷ (h.1.0 ++ (0 ∷ 0 ∷ [])); is = a.is; behind = (h.1.0, h.1.1, inr refl) })
    h.1.2

-- the reading, after an identifier, of the tree
abbrev pub Gives : {A : Type 0} → Limits → Enclosing → (ℕ → Tag → Bool → Reading A) → RawTree → A → Type 0
Gives l c one x a =
    (p k : ℕ) (y r : List ℕ) → Behind x y → c.open_containers + tree_depth x ≤ l.depth
    → Within l c.nearest_end (k + length y) → 0 < k
    → run (one p (tree_tag x) (form_of x)) k (y ++ r) ≡ Took a (k + length y) r

-- how a container ends
abbrev pub EndsSo : Enclosing → ℕ → List ℕ → List ℕ → ℕ → Type 0
EndsSo c k o tail q =
    ((c.innermost ≡ EndsAt (k + length o)) × (tail ≡ []) × (q ≡ k + length o))
    ⊎ ((c.innermost ≡ EndsWithZeros) × (tail ≡ 0 ∷ 0 ∷ []) × (q ≡ k + length o + 2))

abbrev pub BodyGives : {A : Type 0} → Limits → (Enclosing → Reading A) → RawTrees → (ℕ → A) → Type 0
BodyGives l body rs made =
    (c' : Enclosing) (k' q' : ℕ) (o tail r' : List ℕ) → AllLaidOut rs o → c'.open_containers + trees_depth rs ≤ l.depth
    → 0 < k' → EndsSo c' k' o tail q' → Within l c'.nearest_end q'
    → run (body c') k' (o ++ (tail ++ r')) ≡ Took (made (k' + length o)) q' r'

self_bound : (q : ℕ) → past_end (Some q) q ≡ false
self_bound q = grind (arith, nat_tests)

len_some : (m : ℕ) (length_octets : List ℕ) (k : ℕ) → SpellsLength m length_octets → 0 < k + length length_octets
unfolding SpellsLength
len_some m [] k g = absurd (omega arith)
len_some m (x ∷ s) k g = omega arith

pub container_on : {A : Type 0} (l : Limits) (c : Enclosing) (p : ℕ) (t : Tag) (rs : RawTrees)
    (body : Enclosing → Reading A) (made : ℕ → A) (k : ℕ) (y r : List ℕ)
    → Behind (Constructed t rs) y → c.open_containers + tree_depth (Constructed t rs) ≤ l.depth
    → Within l c.nearest_end (k + length y) → BodyGives l body rs made
    → (e : ℕ) × (run (in_container l c p true body) k (y ++ r) ≡ Took (made e) (k + length y) r)
unfolding in_container Behind
container_on l c p t rs body made k y r h d w f = ⊎_elim
    (λ a. let length_octets = a.0 in
    let o = h.0 in
    let n : length y ≡ length (length_octets ++ o) = ap length a.2 in
    let z = length-append length_octets o in
    let q : k + length length_octets + length o ≡ k + length y = omega arith in
    let w1 : Within l c.nearest_end (k + length length_octets + length o) = subst (Within l c.nearest_end) (sym q) w in
    let lim : k + length length_octets + length o ≤ l.octets = w1.limit in
    let w2 : Within l (Some (k + length length_octets + length o)) (k + length length_octets + length o) =
    record { nearest_end = self_bound (k + length length_octets + length o); limit = lim } in
    let pos : 0 < k + length length_octets = len_some (length o) length_octets k a.1 in (
      k + length length_octets + length o,
      ap (λ v. run (in_container l c p true body) k (v ++ r)) a.2
          ∙ ap (λ v. run (in_container l c p true body) k v) (append_assoc length_octets o r)
          ∙ require_on _ _ _ k (length_octets ++ (o ++ r)) refl
          ∙ run_bind _ _ k (length_octets ++ (o ++ r)) (DefiniteLength (length o)) (k + length length_octets) (o ++ r)
          (length_on l c.nearest_end p (length o) k length_octets (o ++ r) a.1 w1)
          ∙ where_on _ (k + length length_octets) (o ++ r)
          ∙ f (entered c (k + length length_octets) (DefiniteLength (length o))) (k + length length_octets)
          (k + length length_octets + length o) o [] r h.1 (omega arith) pos (inl (refl, refl, refl)) w2
          ∙ at_place _ _ _ r q,
    ))
    (λ a. let o = h.0 in
    let n : length y ≡ length (128 ∷ (o ++ (0 ∷ 0 ∷ []))) = ap length a in
    let z = length-append o (0 ∷ 0 ∷ []) in
    let q : k + 1 + length o + 2 ≡ k + length y = omega arith in
    let w1 : Within l c.nearest_end (k + 1 + length o + 2) = subst (Within l c.nearest_end) (sym q) w in (
      k + 1 + length o,
      ap (λ v. run (in_container l c p true body) k (v ++ r)) a
          ∙ require_on _ _ _ k (128 ∷ ((o ++ (0 ∷ 0 ∷ [])) ++ r)) refl
          ∙ run_bind _ _ k (128 ∷ ((o ++ (0 ∷ 0 ∷ [])) ++ r)) IndefiniteLength (k + 1) ((o ++ (0 ∷ 0 ∷ [])) ++ r)
          (indefinite_on l c.nearest_end p k ((o ++ (0 ∷ 0 ∷ [])) ++ r)
          (within_less l c.nearest_end (k + 1) (k + 1 + length o + 2) (omega arith) w1))
          ∙ where_on _ (k + 1) ((o ++ (0 ∷ 0 ∷ [])) ++ r)
          ∙ ap (λ v. run (body (entered c (k + 1) IndefiniteLength)) (k + 1) v) (append_assoc o (0 ∷ 0 ∷ []) r)
          ∙ f (entered c (k + 1) IndefiniteLength) (k + 1) (k + 1 + length o + 2) o (0 ∷ 0 ∷ []) r h.1 (omega arith)
          (omega arith) (inr (refl, refl, refl)) w1
          ∙ at_place _ _ _ r q,
    ))
    h.2

-- where a container ends, there is nothing of it left
pub at_end : (c : Enclosing) (k q : ℕ) (o tail r : List ℕ) (l : Limits) → o ≡ [] → EndsSo c k o tail q
    → Within l c.nearest_end q → run (next_tag l c) k (o ++ (tail ++ r)) ≡ Took (ContainerEnds k) q r
at_end c k q o tail r l z e w = ⊎_elim
    (λ a. let n : length o ≡ 0 = ap length z in
    let q0 : k ≡ q = let a2 : q ≡ k + length o = a.2 in omega arith in
    let t : (k + length o == k) ≡ true = let x : k + length o ≡ k = omega arith in grind (arith, nat_tests) in
    ap₂ (λ u v. run (next_tag l c) k (u ++ (v ++ r))) z a.1
    ∙ ends_on l c k r (ap (λ v. stands_at_end v k) a.0 ∙ t)
    ∙ at_place (ContainerEnds k) _ _ r q0)
    (λ a. let n : length o ≡ 0 = ap length z in
    let q0 : k + 2 ≡ q = let a2 : q ≡ k + length o + 2 = a.2 in omega arith in
    ap₂ (λ u v. run (next_tag l c) k (u ++ (v ++ r))) z a.1
    ∙ endless_on l c k r a.0 (subst (Within l c.nearest_end) (sym q0) w)
    ∙ at_place (ContainerEnds k) _ _ r q0)
    e

not_at_end : (c : Enclosing) (k q : ℕ) (o tail : List ℕ) → 0 < length o → EndsSo c k o tail q
    → stands_at_end c.innermost k ≡ false
not_at_end c k q o tail h e = ⊎_elim
    (λ a.
    let t : (k + length o == k) ≡ false =
    let x : k + length o ≢ k = λ z. absurd (omega arith) in grind (arith, nat_tests) in
    ap (λ v. stands_at_end v k) a.0 ∙ t)
    (λ a. ap (λ v. stands_at_end v k) a.0)
    e

-- after a first member
ends_on_rest : (c : Enclosing) (k j q : ℕ) (o d tail : List ℕ) → k + length o ≡ j + length d → EndsSo c k o tail q
    → EndsSo c j d tail q
ends_on_rest c k j q o d tail h e = ⊎_elim
    (λ a. let a2 : q ≡ k + length o = a.2 in inl (a.0 ∙ ap EndsAt h, a.1, omega arith))
    (λ a. let a2 : q ≡ k + length o + 2 = a.2 in inr (a.0, a.1, omega arith))
    e

ends_later : (c : Enclosing) (k q : ℕ) (o tail : List ℕ) → EndsSo c k o tail q → k + length o ≤ q
ends_later c k q o tail e =
    ⊎_elim (λ a. let a2 : q ≡ k + length o = a.2 in omega arith)
    (λ a. let a2 : q ≡ k + length o + 2 = a.2 in omega arith) e

pub id_some : (t : Tag) (f : Bool) → IsTag t → 0 < length (identifier t f)
id_some t f g =
    let s = identifier_starts t f g in
    let n : length (identifier t f) ≡ length (s.first ∷ s.rest) = ap length s.is in
    omega arith

-- a member: its identifier is taken, and what is after it stands before what is left
pub record MemberStands (l : Limits) (c : Enclosing) (k q : ℕ) (x : RawTree) (b d tail r : List ℕ) : Type 0 where
  pub behind : ℕ
  pub octets : List ℕ
  pub taken : run (next_tag l c) k ((b ++ d) ++ (tail ++ r))
      ≡ Took (ElementStands k (tree_tag x) (form_of x)) behind (octets ++ (d ++ (tail ++ r)))
  pub laid_out : Behind x octets
  pub within : Within l c.nearest_end (behind + length octets)
  pub positive : 0 < behind
  pub longer : k < behind
  pub place : behind + length octets ≡ k + length b
  pub ending : EndsSo c (behind + length octets) d tail q

pub depth_some : (x : RawTree) → 1 ≤ tree_depth x
depth_some (Primitive t o) = omega arith
depth_some (Constructed t rs) = omega arith

pub member_on : (l : Limits) (c : Enclosing) (k q : ℕ) (x : RawTree) (b d tail r : List ℕ) → LaidOut x b
    → c.open_containers + tree_depth x ≤ l.depth → EndsSo c k (b ++ d) tail q → Within l c.nearest_end q
    → MemberStands l c k q x b d tail r
member_on l c k q x b d tail r h dp e w =
    let s = split_lay x b h in
    let a = identifier (tree_tag x) (form_of x) in
    let n : length b ≡ length (a ++ s.octets) = ap length s.is in
    let z = length-append a s.octets in
    let z' = length-append b d in
    let some = id_some (tree_tag x) (form_of x) s.tag in
    let later = ends_later c k q (b ++ d) tail e in
    let one : 1 ≤ tree_depth x = depth_some x in
    let pl : k + length a + length s.octets ≡ k + length b = omega arith in
    let j : k + length (b ++ d) ≡ k + length a + length s.octets + length d = omega arith in
    let eq : (b ++ d) ++ (tail ++ r) ≡ a ++ (s.octets ++ (d ++ (tail ++ r))) = append_assoc b d (tail ++ r)
    ∙ ap (λ v. v ++ (d ++ (tail ++ r))) s.is ∙ append_assoc a s.octets (d ++ (tail ++ r)) in
    record {
      behind = k + length a;
      octets = s.octets;
      taken =
          ap (λ v. run (next_tag l c) k v) eq
          ∙ next_on l c k (tree_tag x) (form_of x) (s.octets ++ (d ++ (tail ++ r)))
          (not_at_end c k q (b ++ d) tail (omega arith) e) s.tag (omega arith)
          (within_less l c.nearest_end (k + length a) q (omega arith) w);
      laid_out = s.behind;
      within = within_less l c.nearest_end (k + length a + length s.octets) q (omega arith) w;
      positive = omega arith;
      longer = omega arith;
      place = pl;
      ending = ends_on_rest c k (k + length a + length s.octets) q (b ++ d) d tail j e;
    }

pub each_on_members : {S : Type 0} (one : S → ℕ → Tag → Bool → Reading S) (l : Limits) (c : Enclosing) (fuel : ℕ)
    (s0 : S) (rs : RawTrees) (s1 : S) (k q : ℕ) (o tail r : List ℕ)
    → Steps (λ s x s'. Gives l c (one s) x s') s0 rs s1 → AllLaidOut rs o → length o < fuel
    → c.open_containers + trees_depth rs ≤ l.depth → EndsSo c k o tail q → Within l c.nearest_end q
    → run (each_member one fuel l c s0) k (o ++ (tail ++ r)) ≡ Took (record { all = s1; at = k + length o }) q r
unfolding each_member LaidOut
each_on_members one l c zero s0 rs s1 k q o tail r h g f d e w = absurd (omega arith)
each_on_members one l c (suc fuel) s0 NoTrees s1 k q o tail r h g f d e w =
    let n : length o ≡ 0 = ap length g in
    let z : k ≡ k + length o = omega arith in
    run_bind _ _ k (o ++ (tail ++ r)) (ContainerEnds k) q r (at_end c k q o tail r l g e w)
    ∙ done_on _ q r
    ∙ ap₂ (λ u v. Took (record { all = u; at = v }) q r) h z
each_on_members one l c (suc fuel) s0 (FirstTree x xs) s1 k q o tail r h g f d e w =
    let e' = subst (λ v. EndsSo c k v tail q) g.4 e in
    let m = member_on l c k q x g.0 g.1 tail r g.2 (omega arith) e' w in
    let n : length o ≡ length (g.0 ++ g.1) = ap length g.4 in
    let z = length-append g.0 g.1 in
    let pl : m.behind + length m.octets ≡ k + length g.0 = m.place in
    let lg : k < m.behind = m.longer in
    let q' : m.behind + length m.octets + length g.1 ≡ k + length o = omega arith in
    ap (λ v. run (each_member one (suc fuel) l c s0) k (v ++ (tail ++ r))) g.4
    ∙ run_bind _ _ k ((g.0 ++ g.1) ++ (tail ++ r)) (ElementStands k (tree_tag x) (form_of x)) m.behind
    (m.octets ++ (g.1 ++ (tail ++ r))) m.taken
    ∙ run_bind _ _ m.behind (m.octets ++ (g.1 ++ (tail ++ r))) h.0 (m.behind + length m.octets) (g.1 ++ (tail ++ r))
    (h.1 k m.behind m.octets (g.1 ++ (tail ++ r)) m.laid_out (omega arith) m.within m.positive)
    ∙ each_on_members one l c fuel h.0 xs s1 (m.behind + length m.octets) q g.1 tail r h.2 g.3 (omega arith)
    (omega arith) m.ending w
    ∙ ap (λ v. Took (record { all = s1; at = v }) q r) q'

-- leaves

integer_on : (o : List ℕ) → IsInteger o → is_integer_contents o ≡ true
integer_on [] h = absurd h
integer_on (x ∷ []) h = refl
integer_on (x ∷ y ∷ s) h = both _ _ (first (x == 0) refl) (second (x == 255) refl)
  where
    first : (b : Bool) → (x == 0) ≡ b → not b || nat_le 128 y ≡ true
    first true e = let z : x ≡ 0 = grind (arith, nat_tests) in let g : 128 ≤ y = h.0 z in grind (arith, nat_tests)
    first false e = refl

    second : (b : Bool) → (x == 255) ≡ b → not b || nat_lt y 128 ≡ true
    second true e = let z : x ≡ 255 = grind (arith, nat_tests) in let g : y < 128 = h.1 z in grind (arith, nat_tests)
    second false e = refl

pub segment_ok : (o : List ℕ) → IsBitSegment o → is_bit_segment o ≡ true
segment_ok [] h = absurd h
segment_ok (u ∷ []) h = let z : u ≡ 0 = h.1 refl in grind (arith, nat_tests)
segment_ok (u ∷ x ∷ s) h = let z : u ≤ 7 = h.0 in grind (arith, nat_tests)

abbrev Big : ℕ
Big = 340282366920938463463374607431768211456

arcs_on : (n : ℕ) (d s : List ℕ) (m : ℕ) → IsRun d → LeadFits n d → run_value n d ≡ m → m < Big
    → is_subidentifiers 0 s ≡ true → is_subidentifiers n (d ++ s) ≡ true
unfolding is_subidentifiers
arcs_on n [] s m h f v z g = absurd (omega arith)
arcs_on n (x ∷ []) s m h f v z g =
    let v' : n * 128 + x % 128 ≡ m = v in
    let t0 : nat_lt x 256 ≡ true = grind (arith, nat_tests) in
    let t1 : nat_lt x 128 ≡ true = grind (arith, nat_tests) in
    let e : n * 128 + x < Big = omega arith in
    let t2 : nat_lt (n * 128 + x) Big ≡ true = grind (arith, nat_tests) in
    both _ _ (both _ _ f t0)
    (ap (λ b. elim b [
      | true ↦ nat_lt (n * 128 + x) Big && is_subidentifiers 0 s
      | false ↦ is_subidentifiers (n * 128 + (x - 128)) s
    ]) t1
    ∙ both _ _ t2 g)
arcs_on n (x ∷ y ∷ d) s m h f v z g =
    let h0 : 128 ≤ x = h.0 in
    let h1 : x < 256 = h.1 in
    let t0 : nat_lt x 256 ≡ true = grind (arith, nat_tests) in
    let t1 : nat_lt x 128 ≡ false = grind (arith, nat_tests) in
    let nv : n * 128 + x % 128 ≡ n * 128 + (x - 128) = omega arith in
    let nz : n * 128 + (x - 128) ≢ 0 = not_lead n x h0 f in
    both _ _ (both _ _ f t0)
    (ap (λ b. elim b [
      | true ↦ nat_lt (n * 128 + x) Big && is_subidentifiers 0 ((y ∷ d) ++ s)
      | false ↦ is_subidentifiers (n * 128 + (x - 128)) ((y ∷ d) ++ s)
    ]) t1
    ∙ arcs_on (n * 128 + (x - 128)) (y ∷ d) s m h.2 (lead_from (n * 128 + (x - 128)) (y ∷ d) nz)
    (ap (λ a. run_value a (y ∷ d)) (sym nv) ∙ v) z g)

empty_arcs : is_subidentifiers 0 [] ≡ true
unfolding is_subidentifiers
empty_arcs = refl

all_arcs_on : (ns : List ℕ) → AllBelow Big ns → is_subidentifiers 0 (flat_map base128 ns) ≡ true
all_arcs_on [] h = empty_arcs
all_arcs_on (n ∷ ns) h =
    arcs_on 0 (base128 n) (flat_map base128 ns) n (base128_run n) (digits_fit n) (base128_value n) h.0
    (all_arcs_on ns h.1)

object_identifier_on : (arcs o : List ℕ) → ObjectIdentifierOctets arcs o → is_object_identifier o ≡ true
object_identifier_on [] o h = absurd h
object_identifier_on (x ∷ []) o h = absurd h
object_identifier_on (x ∷ y ∷ arcs) o h =
    not_empty o (run_some (40 * x + y) (flat_map base128 arcs) o h.3)
    (subst (λ v. is_subidentifiers 0 v ≡ true) (sym h.3) (all_arcs_on ((40 * x + y) ∷ arcs) h.2))
  where
    not_empty : (o : List ℕ) → o ≢ [] → is_subidentifiers 0 o ≡ true → is_object_identifier o ≡ true
    not_empty [] z g = absurd (z refl)
    not_empty (a ∷ s) z g = g

    run_cons : (d s : List ℕ) → IsRun d → d ++ s ≢ []
    run_cons [] s r z = absurd (omega arith)
    run_cons (a ∷ d) s r z = cc

    run_some : (n : ℕ) (s o : List ℕ) → o ≡ base128 n ++ s → o ≢ []
    run_some n s o e z = run_cons (base128 n) s (base128_run n) (sym e ∙ z)

-- a leaf's contents pass the test
pub contents_on : (k : LeafKind) (t : Tag) (c o : List ℕ) → LeafContents k (Primitive t c) o → is_contents k c ≡ true
unfolding LeafContents segments
contents_on Boolean t c o h = let z : length c ≡ 1 = h.0 in grind (arith, nat_tests)
contents_on Integer t c o h = integer_on c h.0
contents_on Null t c o h = let z : length c ≡ 0 = ap length h.0 in grind (arith, nat_tests)
contents_on ObjectIdentifier t c o h = object_identifier_on h.0.0 c h.0.1
contents_on BitString t c o h = segment_ok c h.each
contents_on OctetString t c o h = refl
contents_on Utf8String t c o h = is_utf8-from_IsUtf8 c (subst IsUtf8 (h.0.is ∙ append-nil c) h.1)
