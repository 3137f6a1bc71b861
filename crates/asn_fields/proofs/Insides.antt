-- Where a reader stands while it reads the fields of a container.
use Rattle.std.specs.Option.{is_some}
use Rattle.std.proofs.Common.{Bool, IsSome, List, None, Ok, Option, Result, Some, ap, false, refl, subst, sym, ℕ, ◌∙◌, ◌∷◌, ◌≡◌}
use Rattle.tlv_core.specs.Identifier.{Tag}
use Rattle.tlv_core.specs.declared.fault.ReadError.{ReadError}
use Rattle.x690.specs.Points.{Enclosing}
use Rattle.x690.specs.ReadHeaders.{DefiniteLength, IndefiniteLength, LengthForm, Next, next_tag}
use Rattle.x690.specs.Reading.{Done, choose}
use Rattle.ber_pull.specs.Calls.{read_next}
use Rattle.ber_pull.specs.Hears.{Hears, heard, next_at}
use Rattle.ber_pull.specs.Standing.{IsAtEnd, Standing, after_next, container_of, enclosing, is_ended, opening, place, used}
use Rattle.ber_pull.specs.declared.state.Container.TheVariants.{Definite, Ended, Indefinite}
use Rattle.ber_pull.specs.declared.state.Container.{Container}
use Rattle.ber_pull.proofs.Hearing.{hears_at, hears_done}
use Rattle.asn_fields.specs.Insides.{BeginsBefore, Inside, Within, given_by}

-- A container that was opened isn't ended.

not_ended : (form : LengthForm) (s : Standing) → is_ended (container_of form s) ≡ false
not_ended (DefiniteLength n) s = refl
not_ended IndefiniteLength s = refl

opened : (form : LengthForm) (k : ℕ) (s : Standing)
    → Within s (enclosing (opening form (used k s))) (opening form (used k s))
opened form k s =
    record { container = container_of form (used k s); is = refl; point = refl; open_still = not_ended form (used k s) }

pub opens_within : (form : LengthForm) (k : ℕ) (s s' : Standing) → s' ≡ opening form (used k s)
    → Within s (enclosing s') s'
opens_within form k s s' e = subst (λ w. Within s (enclosing w) w) (sym e) (opened form k s)

-- What stands next in it.

pub within_none : (outer : Standing) (inside : Enclosing) (s : Standing) → Within outer inside s → s.given ≡ None
within_none outer inside s w = ap (λ x. x.given) w.is

pub within_limits : (outer : Standing) (inside : Enclosing) (s : Standing) → Within outer inside s
    → s.limits ≡ outer.limits
within_limits outer inside s w = ap (λ x. x.limits) w.is

abbrev held : Standing → ℕ → Container → Standing
held outer k c = record outer { taken = k; given = None; containers = c ∷ outer.containers }

held_next : (outer : Standing) (k : ℕ) (c : Container) → is_ended c ≡ false
    → read_next (held outer k c) ≡ next_tag outer.limits (enclosing (held outer k c))
unfolding read_next choose
held_next outer k (Definite end) e = refl
held_next outer k (Indefinite around) e = refl
held_next outer k (Ended around) e = cc

pub within_next : (outer : Standing) (inside : Enclosing) (s : Standing) → Within outer inside s
    → read_next s ≡ next_tag outer.limits inside
within_next outer inside s w =
    ap read_next w.is
    ∙ held_next outer s.taken w.container w.open_still
    ∙ ap (λ x. next_tag outer.limits (enclosing x)) (sym w.is)
    ∙ ap (next_tag outer.limits) w.point

held_inside : (outer : Standing) (inside : Enclosing) (k : ℕ) (c : Container) (n : Option (Tag × Bool)) (s' : Standing)
    → is_ended c ≡ false → enclosing (held outer k c) ≡ inside → s' ≡ after_next s'.taken n (held outer k c)
    → (n ≡ None → IsAtEnd s') → BeginsBefore s' (next_at k n) → Inside outer inside s' (next_at k n)
held_inside outer inside k c (Some t) s' o p e f b =
    record { container = c; is = e; point = ap enclosing e ∙ p; open_still = λ x. o; ended = λ x. cc; begins = b }
held_inside outer inside k (Definite end) None s' o p e f b =
    record {
      container = Definite end;
      is = e;
      point = ap enclosing e ∙ p;
      open_still = λ x. o;
      ended = λ x. f refl;
      begins = b;
    }
held_inside outer inside k (Indefinite around) None s' o p e f b =
    record {
      container = Ended around;
      is = e;
      point = ap enclosing e ∙ p;
      open_still = λ x. cc;
      ended = λ x. f refl;
      begins = b;
    }
held_inside outer inside k (Ended around) None s' o p e f b = cc

pub next_inside : (outer : Standing) (inside : Enclosing) (s : Standing) (n : Option (Tag × Bool)) (s' : Standing)
    → Within outer inside s → s' ≡ after_next s'.taken n s → (n ≡ None → IsAtEnd s')
    → BeginsBefore s' (next_at (place s) n) → Inside outer inside s' (next_at (place s) n)
next_inside outer inside s n s' w e f b =
    let p : place s ≡ s.taken = ap place w.is in
    subst (λ k. Inside outer inside s' (next_at k n)) (sym p)
    (held_inside outer inside s.taken w.container n s' w.open_still (ap enclosing (sym w.is) ∙ w.point)
    (e ∙ ap (after_next s'.taken n) w.is) f (subst (λ k. BeginsBefore s' (next_at k n)) p b))

-- The element that stands next is read.

pub inside_given : (outer : Standing) (inside : Enclosing) (s : Standing) (next : Next) → Inside outer inside s next
    → s.given ≡ given_by next
inside_given outer inside s next i = ap (λ x. x.given) i.is

pub inside_limits : (outer : Standing) (inside : Enclosing) (s : Standing) (next : Next) → Inside outer inside s next
    → s.limits ≡ outer.limits
inside_limits outer inside s next i = ap (λ x. x.limits) i.is

pub used_within : (outer : Standing) (inside : Enclosing) (s : Standing) (next : Next) (s' : Standing)
    → Inside outer inside s next → IsSome (given_by next) → s' ≡ used s'.taken s → Within outer inside s'
used_within outer inside s next s' i some e =
    record {
      container = i.container;
      is = e ∙ ap (used s'.taken) i.is;
      point = ap enclosing e ∙ i.point;
      open_still = i.open_still some;
    }

-- The container is ended, and left.

-- nothing is taken by leaving
pub left_here : (r : Result (Unit {0}) ReadError) (k i : ℕ) (s u : Option (List ℕ)) → r ≡ Ok tt → i ≡ k → u ≡ s
    → Hears (Done tt) k s (heard {A = Unit {0}} (λ w. w) r) i u
left_here r k i s u x y z =
    hears_at _ _ k k i s s u y z
    (subst (λ w. Hears (Done tt) k s (heard {A = Unit {0}} (λ v. v) w) k s) (sym x) (hears_done tt k s))

pub stands_none : (p : ℕ) (n : Option (Tag × Bool)) → is_some n ≡ false → given_by (next_at p n) ≡ None
stands_none p None e = refl
stands_none p (Some t) e = cc

pub stands_some : (p : ℕ) (n : Option (Tag × Bool)) (t : Tag × Bool) → n ≡ Some t → IsSome (given_by (next_at p n))
stands_some p n t e = rw e refl

-- the element that stands next is given
pub field_given : (outer : Standing) (inside : Enclosing) (s : Standing) (p : ℕ) (n : Option (Tag × Bool))
    (t : Tag × Bool)
    → Inside outer inside s (next_at p n) → n ≡ Some t
    → s.given ≡ Some (record { at = p; tag = t.0; constructed = t.1 })
field_given outer inside s p n t a e = inside_given outer inside s (next_at p n) a ∙ ap (λ w. given_by (next_at p w)) e
