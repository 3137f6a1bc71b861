-- Lengths and contents at hand, by the laws on what a reading takes.
use Rattle.std.proofs.Common.{append-nil, ◌≡◌, ◌∙◌, ◌+◌, ◌++◌, ◌∷◌, ◌≤◌, ◌*◌, ◌^◌, ◌⊎◌, get_or, Bool, List, Option, Some, None, [], ap, ap₂, arith, drop, false, inl, inr, length, not, refl, subst, sym, take, true, ℕ, ◌&&◌, ◌<◌, nat_le}
use Rattle.std.proofs.lemmas.Bool.Decides.{nat_tests}
use Rattle.std.proofs.lemmas.List.{append_cancel_right, drop-drop, length-append, length-drop, length-take-le, take-append-drop}
use Rattle.std.specs.Io.KnownBytes.{Consumes}
use Rattle.tlv_core.specs.Length.{SpellsLength}
use Rattle.tlv_core.specs.declared.reason.Reason.TheVariants.{WrongForm}
use Rattle.x690.specs.Points.{fault, past_end}
use Rattle.x690.specs.ReadHeaders.{primitive_contents}
use Rattle.x690.specs.Reading.{Outcome, Reading, Took, run}
use Rattle.x690.specs.Reads.{Reads, Said}
use Rattle.x690.proofs.Runs.{taken, took_require}
use Rattle.x690_laws.proofs.ReadingHeadersSound.{Within, primitive_took}
use Rattle.x690_laws.proofs.ReadingOfHeaders.{primitive_on, require_on}
use Rattle.ber_pull.specs.Hears.{Hears}
use Rattle.ber_pull.specs.declared.at_hand.Extent.{Extent}
use Rattle.ber_pull.specs.declared.state.Given.{Given}
use Rattle.ber_pull.specs.AtHand.{AreAtHand, StandAtHand}
use Rattle.ber_pull.specs.Calls.{read_primitive}
use Rattle.ber_pull.specs.Standing.{Standing, enclosing, gives_primitive, has_room}
use Rattle.ber_pull.proofs.Hearing.{hears_on, hears_said, no_true}

-- the forms of a length of three octets or fewer, by the octets that begin with it

abbrev pub InOne : List ℕ → ℕ → ℕ → Type 0
InOne octets from size =
    (0 < length octets) × (get_or octets 0 0 < 128) × (from ≡ 1) × (size ≡ get_or octets 0 0)

abbrev pub InTwo : List ℕ → ℕ → ℕ → Type 0
InTwo octets from size =
    (1 < length octets) × (get_or octets 0 0 ≡ 129) × (from ≡ 2) × (size ≡ get_or octets 1 0)

abbrev pub InThree : List ℕ → ℕ → ℕ → Type 0
InThree octets from size =
    (2 < length octets)
    × (get_or octets 0 0 ≡ 130)
    × (from ≡ 3)
    × (size ≡ get_or octets 1 0 * 256 + get_or octets 2 0)

abbrev pub InFew : List ℕ → ℕ → ℕ → Type 0
InFew octets from size = InOne octets from size ⊎ (InTwo octets from size ⊎ InThree octets from size)

one_spells : (octets : List ℕ) (size : ℕ) → 0 < length octets → get_or octets 0 0 < 128 → size ≡ get_or octets 0 0
    → SpellsLength size (take 1 octets)
unfolding SpellsLength
one_spells [] size some low is = absurd (omega arith)
one_spells (x ∷ octets) size some low is = inl (low, sym is, refl)

two_spell : (octets : List ℕ) (size : ℕ) → 1 < length octets → get_or octets 0 0 ≡ 129 → size ≡ get_or octets 1 0
    → SpellsLength size (take 2 octets)
unfolding SpellsLength
two_spell [] size some first is = absurd (omega arith)
two_spell (x ∷ []) size some first is = absurd (omega arith)
two_spell (x ∷ y ∷ octets) size some first is =
    let count : length (y ∷ []) + 128 ≡ x = omega arith in
    let number : 0 * 256 + y ≡ size = omega arith in
    inr (omega arith, omega arith, count, number)

three_spell : (octets : List ℕ) (size : ℕ) → 2 < length octets → get_or octets 0 0 ≡ 130
    → size ≡ get_or octets 1 0 * 256 + get_or octets 2 0 → SpellsLength size (take 3 octets)
unfolding SpellsLength
three_spell [] size some first is = absurd (omega arith)
three_spell (x ∷ []) size some first is = absurd (omega arith)
three_spell (x ∷ y ∷ []) size some first is = absurd (omega arith)
three_spell (x ∷ y ∷ z ∷ octets) size some first is =
    let count : length (y ∷ z ∷ []) + 128 ≡ x = omega arith in
    let number : (0 * 256 + y) * 256 + z ≡ size = omega arith in
    inr (omega arith, omega arith, count, number)

pub few_spell : (octets : List ℕ) (from size : ℕ) → InFew octets from size → SpellsLength size (take from octets)
few_spell octets from size (inl a) =
    subst (λ n. SpellsLength size (take n octets)) (sym a.2) (one_spells octets size a.0 a.1 a.3)
few_spell octets from size (inr (inl a)) =
    subst (λ n. SpellsLength size (take n octets)) (sym a.2) (two_spell octets size a.0 a.1 a.3)
few_spell octets from size (inr (inr a)) =
    subst (λ n. SpellsLength size (take n octets)) (sym a.2) (three_spell octets size a.0 a.1 a.3)

-- Each short length has one of these forms,
spelled_few : (text rest : List ℕ) (n : ℕ) → SpellsLength n text → length text ≤ 3
    → InFew (text ++ rest) (length text) n
unfolding SpellsLength
spelled_few [] rest n spells short = absurd spells
spelled_few (x ∷ []) rest n (inl a) short = inl (omega arith, a.0, refl, sym a.1)
spelled_few (x ∷ []) rest n (inr a) short = let e : 0 + 128 ≡ x = a.2 in absurd (omega (arith, a.0))
spelled_few (x ∷ y ∷ []) rest n (inl a) short = let e : y ∷ [] ≡ [] = a.2 in cc
spelled_few (x ∷ y ∷ []) rest n (inr a) short =
    let count : length (y ∷ []) + 128 ≡ x = a.2 in
    let number : 0 * 256 + y ≡ n = a.3 in
    inr (inl (omega arith, omega arith, refl, omega arith))
spelled_few (x ∷ y ∷ z ∷ []) rest n (inl a) short = let e : y ∷ z ∷ [] ≡ [] = a.2 in cc
spelled_few (x ∷ y ∷ z ∷ []) rest n (inr a) short =
    let count : length (y ∷ z ∷ []) + 128 ≡ x = a.2 in
    let number : (0 * 256 + y) * 256 + z ≡ n = a.3 in
    inr (inr (omega arith, omega arith, refl, omega arith))
spelled_few (x ∷ y ∷ z ∷ w ∷ text) rest n spells short = absurd (omega arith)

pub short_few : (octets text rest : List ℕ) (n : ℕ) → octets ≡ text ++ rest → SpellsLength n text → length text ≤ 3
    → InFew octets (length text) n
short_few octets text rest n is spells short =
    subst (λ o. InFew o (length text) n) (sym is) (spelled_few text rest n spells short)

-- and octets begin with one.
few_same : (octets : List ℕ) (a b c d : ℕ) → InFew octets a b → InFew octets c d → (a ≡ c) × (b ≡ d)
few_same octets a b c d (inl x) (inl y) = (x.2 ∙ sym y.2, x.3 ∙ sym y.3)
few_same octets a b c d (inl x) (inr (inl y)) = absurd (omega (arith, x.1, y.1))
few_same octets a b c d (inl x) (inr (inr y)) = absurd (omega (arith, x.1, y.1))
few_same octets a b c d (inr (inl x)) (inl y) = absurd (omega (arith, x.1, y.1))
few_same octets a b c d (inr (inl x)) (inr (inl y)) = (x.2 ∙ sym y.2, x.3 ∙ sym y.3)
few_same octets a b c d (inr (inl x)) (inr (inr y)) = absurd (omega (arith, x.1, y.1))
few_same octets a b c d (inr (inr x)) (inl y) = absurd (omega (arith, x.1, y.1))
few_same octets a b c d (inr (inr x)) (inr (inl y)) = absurd (omega (arith, x.1, y.1))
few_same octets a b c d (inr (inr x)) (inr (inr y)) = (x.2 ∙ sym y.2, x.3 ∙ sym y.3)

abbrev pub extent : ℕ → ℕ → Option Extent
extent from size = Some (record { from = from; size = size })

pub only_few : (octets : List ℕ) (from size : ℕ) → InFew octets from size → (text rest : List ℕ) (n : ℕ)
    → octets ≡ text ++ rest → SpellsLength n text → length text ≤ 3 → extent from size ≡ extent (length text) n
only_few octets from size x text rest n is spells short =
    let same = few_same octets from size (length text) n x (short_few octets text rest n is spells short) in
    ap₂ extent same.0 same.1

pub none_few : (octets text rest : List ℕ) (n : ℕ) → octets ≡ text ++ rest → SpellsLength n text → length text ≤ 3
    → (InFew octets (length text) n → ⊥) → None ≡ extent (length text) n
none_few octets text rest n is spells short none = absurd (none (short_few octets text rest n is spells short))

-- so much room as the laws speak of it

room_within : (e : Option ℕ) (k l : ℕ) → not (past_end e k) && nat_le k l ≡ true → (past_end e k ≡ false) × (k ≤ l)
room_within e k l h = go (past_end e k) refl h
  where
    go : (b : Bool) → past_end e k ≡ b → not b && nat_le k l ≡ true → (b ≡ false) × (k ≤ l)
    go true e h = cc
    go false e h = let t : nat_le k l ≡ true = h in (refl, grind (arith, nat_tests))

pub within_room : (s : Standing) (n : ℕ) → has_room s n ≡ true → Within s.limits (enclosing s).nearest_end (s.taken + n)
within_room s n h =
    let w = room_within (enclosing s).nearest_end (s.taken + n) s.limits.octets h in
    record { nearest_end = w.0; limit = w.1 }

pub room_of : (s : Standing) (n : ℕ) → Within s.limits (enclosing s).nearest_end (s.taken + n) → has_room s n ≡ true
room_of s n w =
    let z = w.limit in
    let t : nat_le (s.taken + n) s.limits.octets ≡ true = grind (arith, nat_tests) in
    ap₂ (λ a b. not a && b) w.nearest_end t

-- what reading takes from octets that begin with a length
pub extent_read : (s : Standing) (octets : List ℕ) (from size place : ℕ) → SpellsLength size (take from octets)
    → from + size ≤ length octets → has_room s (from + size) ≡ true
    → run (primitive_contents s.limits (enclosing s) place) s.taken octets
    ≡ Took (take size (drop from octets)) (s.taken + (from + size)) (drop (from + size) octets)
extent_read s octets from size place spells fits room =
    let text = take from octets in
    let behind = drop from octets in
    let all : text ++ behind ≡ octets = take-append-drop from octets in
    let long : length text ≡ from = length-take-le from octets (omega arith) in
    let both : length octets ≡ length text + length behind = sym (ap length all) ∙ length-append text behind in
    let contents = take size behind in
    let rest = drop size behind in
    let count : length contents ≡ size = length-take-le size behind (omega (arith, both, long)) in
    let end : s.taken + length text + length contents ≡ s.taken + (from + size) = omega (arith, long, count) in
    ap (run (primitive_contents s.limits (enclosing s) place) s.taken)
    (sym all ∙ ap (λ w. text ++ w) (sym (take-append-drop size behind)))
    ∙ primitive_on s.limits (enclosing s) place s.taken text contents rest
    (subst (λ n. SpellsLength n text) (sym count) spells)
    (subst (Within s.limits (enclosing s).nearest_end) (sym end) (within_room s (from + size) room))
    ∙ ap₂ (λ k r. Took contents k r) end (drop-drop size from octets)

-- Contents that are taken in few octets begin with a short length, and there is room for them.
pub record ShortlySpelled (s : Standing) (octets contents : List ℕ) : Type 0 where
  pub text : List ℕ
  pub behind : List ℕ
  pub is : octets ≡ text ++ behind
  pub spells : SpellsLength (length contents) text
  pub short : length text ≤ 3
  pub fits : length text + length contents ≤ length octets
  pub room : has_room s (length text + length contents) ≡ true

pub shortly_spelled : (s : Standing) (octets contents rest : List ℕ) (place end : ℕ)
    → run (primitive_contents s.limits (enclosing s) place) s.taken octets ≡ Took contents end rest
    → end ≤ s.taken + 3 + length contents → ShortlySpelled s octets contents
shortly_spelled s octets contents rest place end h few =
    let t = primitive_took s.limits (enclosing s) place s.taken octets contents end rest h in
    let at : end ≡ s.taken + length t.length_octets + length contents = t.place in
    let at' : end ≡ s.taken + (length t.length_octets + length contents) = omega arith in
    let long : length octets ≡ length t.length_octets + (length contents + length rest) =
    ap length t.is ∙ length-append t.length_octets (contents ++ rest)
    ∙ ap (λ n. length t.length_octets + n) (length-append contents rest) in
    record {
      text = t.length_octets;
      behind = contents ++ rest;
      is = t.is;
      spells = t.spells;
      short = omega (arith, at, few);
      fits = omega (arith, long);
      room = room_of s _ (subst (Within s.limits (enclosing s).nearest_end) at' t.within);
    }

-- What a reading takes of octets, it takes of a source that passes the same ones.
pub hears_passed : {A : Type 0} (p : Reading A) (a : A) (k j : ℕ) (passed rest : List ℕ) (octets : List ℕ)
    (s u : Option (List ℕ))
    → run p k octets ≡ Took a j rest → octets ≡ passed ++ rest → Consumes s u passed → Hears p k s (Said a) j u
unfolding Hears Reads
hears_passed p a k j passed rest octets None u h is c =
    let t = taken p k octets a j rest h in
    (t.octets, t.place, ap (run p k) (sym (append-nil t.octets)) ∙ t.any_rest [])
hears_passed p a k j passed rest octets (Some s) None h is c = absurd c
hears_passed p a k j passed rest octets (Some s) (Some u) h is c =
    let t = taken p k octets a j rest h in
    let same : passed ≡ t.octets = append_cancel_right passed t.octets rest (sym is ∙ t.is) in
    let all : s ≡ t.octets ++ u = c ∙ ap (λ w. w ++ u) same in
    ((t.octets, all, t.place), ap (run p k) all ∙ t.any_rest u)

-- the other forms, and that they are none

pub not_few : (octets : List ℕ) (from size : ℕ) → (0 < length octets → get_or octets 0 0 < 128 → ⊥)
    → (1 < length octets → get_or octets 0 0 ≡ 129 → ⊥) → (2 < length octets → get_or octets 0 0 ≡ 130 → ⊥)
    → InFew octets from size → ⊥
not_few octets from size one two three (inl x) = one x.0 x.1
not_few octets from size one two three (inr (inl x)) = two x.0 x.1
not_few octets from size one two three (inr (inr x)) = three x.0 x.1

pub no_extent : (r : Option Extent) (from size : ℕ) → r ≡ None → r ≡ extent from size → ⊥
no_extent r from size none is = cc

pub extent_is : (r : Option Extent) (x : Extent) (from size : ℕ) → r ≡ Some x → r ≡ extent from size
    → (x.from ≡ from) × (x.size ≡ size)
extent_is r x from size some is =
    let same : x ≡ record { from = from; size = size } = cc in (ap (λ y. y.from) same, ap (λ y. y.size) same)

pub extent_stands : (s : Standing) (octets held : List ℕ) (from size : ℕ) → held ≡ octets
    → SpellsLength size (take from held) → from ≤ 3 → size < 2 ^ 16 → from + size ≤ length held
    → has_room s (from + size) ≡ true → s.taken + (from + size) ≤ s.limits.octets → StandAtHand s octets from size
extent_stands s octets held from size same spells short small fits room within =
    let fits' : from + size ≤ length octets = omega (arith, fits, ap length same) in
    record {
      reads = λ place.
          extent_read s octets from size place (subst (λ o. SpellsLength size (take from o)) same spells) fits' room;
      short = short;
      small = small;
      within = fits';
      taken = within;
    }

-- the element whose contents are at hand

pub given_primitive : (s : Standing) → gives_primitive s ≡ true
    → (g : Given) × (s.given ≡ Some g) × (not g.constructed ≡ true)
given_primitive s h = go s.given h refl
  where
    go : (o : Option Given) → elim o [ Some g ↦ not g.constructed | None ↦ false ] ≡ true → s.given ≡ o
        → (g : Given) × (s.given ≡ Some g) × (not g.constructed ≡ true)
    go None h e = cc
    go (Some g) h e = (g, e, h)

pub at_hand_given : (s : Standing) (octets contents : List ℕ) (from size : ℕ) → s.error ≡ None
    → gives_primitive s ≡ true → StandAtHand s octets from size → take size (drop from octets) ≡ contents
    → AreAtHand s octets contents
unfolding read_primitive
at_hand_given s octets contents from size fine primitive x is =
    let p = given_primitive s primitive in
    let g = p.0 in
    let count : length (take size (drop from octets)) ≡ size =
    length-take-le size (drop from octets) (omega (arith, x.within, length-drop from octets)) in
    let long : length contents ≡ size = sym (ap length is) ∙ count in
    record {
      fine = fine;
      element = g;
      given = p.1;
      place = s.taken + (from + size);
      rest = drop (from + size) octets;
      reads = require_on (not g.constructed) (fault g.at WrongForm) (primitive_contents s.limits (enclosing s) g.at)
          s.taken octets p.2
          ∙ x.reads g.at
          ∙ ap (λ o. Took o (s.taken + (from + size)) (drop (from + size) octets)) is;
      short = omega (arith, x.short, long);
    }

pub record ElementRead (s : Standing) (octets contents : List ℕ) (a : AreAtHand s octets contents) : Type 0 where
  pub primitive : not a.element.constructed ≡ true
  pub reads : run (primitive_contents s.limits (enclosing s) a.element.at) s.taken octets ≡ Took contents a.place a.rest

pub element_read : (s : Standing) (octets contents : List ℕ) (a : AreAtHand s octets contents)
    → ElementRead s octets contents a
unfolding read_primitive
element_read s octets contents a =
    let h = took_require (not a.element.constructed) (fault a.element.at WrongForm)
    (primitive_contents s.limits (enclosing s) a.element.at) s.taken octets contents a.place a.rest a.reads in
    record { primitive = h.0; reads = h.1 }

pub at_hand_primitive : (s : Standing) (octets contents : List ℕ) → AreAtHand s octets contents
    → gives_primitive s ≡ true
at_hand_primitive s octets contents a =
    let e = a.given in let t = (element_read s octets contents a).primitive in rw e t

took_same : {A : Type 0} (o : Outcome A) (a b : A) (j k : ℕ) (s t : List ℕ) → o ≡ Took a j s → o ≡ Took b k t → a ≡ b
took_same o a b j k s t x y = cc

-- what is taken of the element that is given
pub element_passed : (s : Standing) (octets contents : List ℕ) (from size : ℕ) (g : Given) (k j : ℕ)
    (o u : Option (List ℕ))
    → AreAtHand s octets contents → StandAtHand s octets from size → s.given ≡ Some g
    → ((place : ℕ)
    → Hears (primitive_contents s.limits (enclosing s) place) k o (Said (take size (drop from octets))) j u)
    → Hears (read_primitive s g) k o (Said contents) j u
unfolding read_primitive
element_passed s octets contents from size g k j o u a x is h =
    let e = element_read s octets contents a in
    let same : a.element ≡ g = let given = a.given in cc in
    let all : take size (drop from octets) ≡ contents =
    took_same _ _ _ _ _ _ _ (x.reads a.element.at) e.reads in
    hears_on (not g.constructed) (fault g.at WrongForm) _ _ _ _ _ _ (ap (λ w. not w.constructed) (sym same) ∙ e.primitive)
    (hears_said _ _ _ _ _ _ _ all (h g.at))

pub primitive_there : (s : Standing) (octets contents : List ℕ) (g : Given) → AreAtHand s octets contents
    → s.given ≡ Some g → g.constructed ≡ false
primitive_there s octets contents g a is =
    let same : a.element ≡ g = let given = a.given in cc in
    no_true g.constructed (ap (λ w. not w.constructed) (sym same) ∙ (element_read s octets contents a).primitive)
