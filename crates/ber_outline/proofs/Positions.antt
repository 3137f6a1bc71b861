-- Open containers, and the octets of a document that are left.
use Rattle.std.proofs.Common.{arith, ◌≡◌, ◌∙◌, ◌+◌, ◌-◌, ◌∷◌, ◌≤◌, List, Some, [], ap, drop, false, length, refl, suc, ℕ}
use Rattle.std.proofs.Math.Seq.{drop-append_seam}
use Rattle.std.proofs.lemmas.List.{length-append}
use Rattle.x690.specs.ReadHeaders.{DefiniteLength, IndefiniteLength, LengthForm}
use Rattle.x690.specs.Reading.{Halted, Reading, Took, run}
use Rattle.x690.specs.Reads.{Heard, Reads, Refused, Said}
use Rattle.tlv_core.specs.declared.fault.Fault.{Fault}
use Rattle.ber_pull.specs.Hears.{Hears, TakesFrom}
use Rattle.ber_pull.specs.Standing.{Standing, container_of, enclosing_of, first_of, is_ended, is_over_in, with_ended, without_first}
use Rattle.ber_pull.specs.declared.state.Container.{Container}
use Rattle.ber_pull.specs.declared.state.Container.TheVariants as open'
use Rattle.ber_outline.specs.Outlines.{innermost_of, without_innermost}
use Rattle.ber_outline.specs.Steps.{AllOpen, insides}

pub inside_is : (cs : List Container) → enclosing_of cs ≡ innermost_of (insides cs)
inside_is [] = refl
inside_is (c ∷ cs) = refl

pub length_insides : (cs : List Container) → length cs ≡ length (insides cs)
length_insides [] = refl
length_insides (c ∷ cs) = ap suc (length_insides cs)

-- a container that is open isn't over
pub open_live : (cs : List Container) (taken : ℕ) → AllOpen cs → (length cs ≡ 0 → ⊥)
    → is_over_in taken (first_of cs) ≡ false
open_live [] taken each none = absurd (none refl)
open_live (c ∷ cs) taken each none = each.0

-- a container that was opened hasn't ended
pub opened : (form : LengthForm) (s : Standing) → is_ended (container_of form s) ≡ false
opened (DefiniteLength n) s = refl
opened IndefiniteLength s = refl

-- one that ends is no longer open
pub closed_is : (cs : List Container) → without_first (with_ended (first_of cs) cs) ≡ without_first cs
closed_is [] = refl
closed_is (open'.Definite end ∷ cs) = refl
closed_is (open'.Indefinite end ∷ cs) = refl
closed_is (open'.Ended end ∷ cs) = refl

pub insides_after : (cs : List Container) → insides (without_first cs) ≡ without_innermost (insides cs)
insides_after [] = refl
insides_after (c ∷ cs) = refl

pub open_all_after : (cs : List Container) → AllOpen cs → AllOpen (without_first cs)
open_all_after [] each = tt
open_all_after (c ∷ cs) each = each.1

-- the container that is ended is still the first
pub ended_some : (cs : List Container) → (length cs ≡ 0 → ⊥) → with_ended (first_of cs) cs ≡ [] → ⊥
ended_some [] none is = none refl
ended_some (open'.Definite end ∷ cs) none is = cc
ended_some (open'.Indefinite end ∷ cs) none is = cc
ended_some (open'.Ended end ∷ cs) none is = cc

-- how many are open when the first no longer is
pub length_after : (cs : List Container) → length (without_first cs) ≡ length cs - 1
length_after [] = refl
length_after (c ∷ cs) = omega arith

-- what a reading heard, over octets that are known
pub heard_run : {A : Type 0} (p : Reading A) (a : A) (k k' : ℕ) (s s' : List ℕ)
    → Hears p k (Some s) (Said a) k' (Some s') → run p k s ≡ Took a k' s'
unfolding Hears Reads
heard_run p a k k' s s' x = x.1

pub refused_run : {A : Type 0} (p : Reading A) (f : Fault) (k k' : ℕ) (s s' : List ℕ)
    → Hears p k (Some s) (Refused f) k' (Some s') → run p k s ≡ Halted f
unfolding Hears Reads
refused_run p f k k' s s' x = x.1

pub heard_takes : {A : Type 0} (p : Reading A) (h : Heard A) (k k' : ℕ) (s s' : List ℕ)
    → Hears p k (Some s) h k' (Some s') → TakesFrom k s k' s'
unfolding Hears
heard_takes p h k k' s s' x = x.0

pub takes_forward : (k k' : ℕ) (s s' : List ℕ) → TakesFrom k s k' s' → k ≤ k'
takes_forward k k' s s' x = let e : k' ≡ k + length x.0 = x.2 in omega arith

-- the octets of the document from a place on
pub left_is : (document : List ℕ) (place : ℕ) (left : List ℕ) → TakesFrom 0 document place left
    → drop place document ≡ left
left_is document place left x =
    let e : place ≡ length x.0 = x.2 ∙ (omega arith) in
    ap (λ k. drop k document) e ∙ (ap (λ o. drop (length x.0) o) x.1 ∙ drop-append_seam x.0 left)

pub place_within : (document : List ℕ) (place : ℕ) (left : List ℕ) → TakesFrom 0 document place left
    → place ≤ length document
place_within document place left x =
    let e : place ≡ 0 + length x.0 = x.2 in
    let all : length document ≡ length x.0 + length left = ap length x.1 ∙ length-append x.0 left in omega arith
