-- The laws on the plain reading of an element.
use Rattle.std.proofs.Common.{◌≡◌, ℕ, ◌+◌, ◌≤◌, ◌<◌, ◌==◌, nat_lt, Bool, true, false, Option, Some, List, [], ◌∷◌, ◌++◌, length, refl, sym, ◌∙◌, ap, subst, arith}
use Rattle.std.proofs.lemmas.Bool.Decides.{nat_tests}
use Rattle.std.proofs.lemmas.List.{length-append}
use Rattle.x690.proofs.Runs.{took_more, halt_more}
use Rattle.x690_laws.proofs.ReadingHeadersSound.{Within}
use Rattle.x690_laws.proofs.ValuesSame.{same_refl, same_sym, same_trans}
use Rattle.x690_laws.proofs.ValuesOfTrees.{same_of}
use Rattle.x690_laws.proofs.ReadingOfLayouts.{form_of, split_lay, id_some}
use Rattle.x690_laws.proofs.ReadingComplete.{type_on, whole_on}
use Rattle.x690_laws.proofs.ReadingSound.{due_took, type_took}
use Rattle.tlv_core.specs.Identifier.{identifier}
use Rattle.tlv_core.specs.Limits.{Limits}
use Rattle.tlv_core.specs.declared.fault.Fault.{Fault}
use Rattle.x690.specs.Fitting.{Fits}
use Rattle.x690.specs.Layouts.{tree_tag}
use Rattle.x690.specs.Lists.{Each}
use Rattle.x690.specs.Points.{Enclosing, EndsAt, EndsWithZeros, Innermost, NoContainer, past_end, stands_at_end}
use Rattle.x690.specs.Premises.{Fair}
use Rattle.x690.specs.ReadTypes.{read_element, read_type}
use Rattle.x690.specs.Reading.{Halted, Outcome, Took, run}
use Rattle.x690.specs.Takes.{Proper, Takes}
use Rattle.x690.specs.TypeTerms.{TypeTerm}
use Rattle.x690.specs.Values.{Same, Value}
use Rattle.x690_laws.specs.ReadingLaws.{TakenIsRead, FaultTakesNothing, MoreOctets, OneTaken, ReadIsTaken}

pub sound : ReadIsTaken
sound l T earlier c k s v q rest h =
    let m = due_took l c (read_type l T earlier c) (Fits l.depth T earlier) k s v q rest (type_took l T earlier c) h in
    let w = subst (λ x. Within l c.nearest_end x) m.place m.within in (
      length m.octets,
      m.place,
      record {
        tree = m.tree;
        octets = m.octets;
        is = m.is;
        count = refl;
        laid_out = m.laid_out;
        in_bound = w.nearest_end;
        in_limit = w.limit;
        depth_fits = m.deep;
        fits = m.fact;
      },
    )

pub need : MoreOctets
need = record {
  value = λ l T earlier c k s x v q rest h. took_more (read_element l T earlier c) k s x v q rest h;
  refusal = λ l T earlier c k s f h. halt_more (read_element l T earlier c) k s f h;
}

pub each_refl : (vs : List Value) → Each Same vs vs
each_refl [] = tt
each_refl (v ∷ vs) = (same_refl v, each_refl vs)

pub not_ended : (c : Enclosing) (k n : ℕ) → Proper c → 0 < n → past_end c.nearest_end (k + n) ≡ false
    → stands_at_end c.innermost k ≡ false
not_ended c k n g p b = go c.innermost refl
  where
    past_self : (k n : ℕ) (b : Option ℕ) → b ≡ Some k → 0 < n → past_end b (k + n) ≡ false → ⊥
    past_self k n b e p h =
        let h' : nat_lt k (k + n) ≡ false = subst (λ w. past_end w (k + n) ≡ false) e h in
        let z : k + n ≤ k = grind (arith, nat_tests) in
        omega arith

    inner_at : (e : ℕ) (x : Bool) → (e == k) ≡ x → c.innermost ≡ EndsAt e → (e == k) ≡ false
    inner_at e true z i =
        let z' : e ≡ k = grind (arith, nat_tests) in absurd (past_self k n c.nearest_end (g e i ∙ ap Some z') p b)
    inner_at e false z i = z

    go : (i : Innermost) → c.innermost ≡ i → stands_at_end i k ≡ false
    go NoContainer i = refl
    go (EndsAt e) i = inner_at e (e == k) refl i
    go EndsWithZeros i = refl

pub complete_with : (l : Limits) (T : TypeTerm) (earlier' earlier : List Value) (c : Enclosing) (k : ℕ) (s : List ℕ)
    (v : Value) (n : ℕ) (rest : List ℕ)
    → Fair T → Proper c → Each Same earlier' earlier
    → Takes l T earlier' c k s v n rest
    → (w : Value) × Same v w × (run (read_element l T earlier c) k s ≡ Took w (k + n) rest)
complete_with l T earlier' earlier c k s v n rest fr pr es h =
    let i = type_on l T earlier' earlier h.tree v fr es h.fits in
    let sp = split_lay h.tree h.octets h.laid_out in
    let some = id_some (tree_tag h.tree) (form_of h.tree) sp.tag in
    let z : length h.octets ≡ length (identifier (tree_tag h.tree) (form_of h.tree) ++ sp.octets) = ap length sp.is in
    let z' = length-append (identifier (tree_tag h.tree) (form_of h.tree)) sp.octets in
    let cnt : length h.octets ≡ n = h.count in
    let q : k + length h.octets ≡ k + n = ap (λ w. k + w) h.count in
    let w : Within l c.nearest_end (k + n) = record { nearest_end = h.in_bound; limit = h.in_limit } in (
      i.0,
      i.1,
      ap (λ x. run (read_element l T earlier c) k x) h.is
          ∙ whole_on l c (read_type l T earlier c) h.tree i.0 k h.octets rest (i.2 c) h.laid_out h.depth_fits
          (subst (Within l c.nearest_end) (sym q) w) (not_ended c k n pr (omega arith) h.in_bound)
          ∙ ap (λ x. Took i.0 x rest) q,
    )

pub complete : TakenIsRead
complete l T earlier c k s v n rest fr pr h =
    complete_with l T earlier earlier c k s v n rest fr pr (each_refl earlier) h

pub exclusive : FaultTakesNothing
exclusive l T earlier c k s f fr pr h v n rest t =
    let x = complete l T earlier c k s v n rest fr pr t in
    clash (run (read_element l T earlier c) k s) f x.0 (k + n) rest h x.2
  where
    clash : (o : Outcome Value) (f : Fault) (w : Value) (q : ℕ) (r : List ℕ) → o ≡ Halted f → o ≡ Took w q r → ⊥
    clash o f w q r a b = cc

pub one_take : OneTaken
one_take l T earlier c k s v w n m rest rest' fr pr h g =
    let x = complete l T earlier c k s v n rest fr pr h in
    let y = complete l T earlier c k s w m rest' fr pr g in
    let e = same_outcome (run (read_element l T earlier c) k s) x.0 y.0 (k + n) (k + m) rest rest' x.2 y.2 in
    let e1 : k + n ≡ k + m = e.1 in
    (same_trans v x.0 w x.1 (same_trans x.0 y.0 w (same_of x.0 y.0 e.0) (same_sym w y.0 y.1)), omega arith, e.2)
  where
    same_outcome : (o : Outcome Value) (a b : Value) (p q : ℕ) (r u : List ℕ) → o ≡ Took a p r → o ≡ Took b q u
        → (a ≡ b) × (p ≡ q) × (r ≡ u)
    same_outcome o a b p q r u h g = let e : Took a p r ≡ Took b q u = sym h ∙ g in (cc, cc, cc)
