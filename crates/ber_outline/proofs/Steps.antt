-- What one call of a reader does is one event.
use Rattle.std.proofs.Common.{arith, ◌≡◌, ◌∙◌, ◌+◌, ◌*◌, ◌-◌, ◌<◌, ◌≤◌, ◌∷◌, ⊎_elim, Bool, List, None, Option, Some, [], ap, drop, false, length, refl, subst, suc, sym, true, ℕ}
use Rattle.tlv_core.specs.Identifier.{Tag, identifier}
use Rattle.tlv_core.specs.Limits.{Limits}
use Rattle.tlv_core.specs.declared.fault.Fault.{Fault}
use Rattle.tlv_core.specs.declared.fault.ReadError.{ReadError}
use Rattle.tlv_core.specs.declared.fault.ReadError.TheVariants as errors
use Rattle.x690.specs.HeaderFaults.{EndsHere}
use Rattle.x690.specs.ReadHeaders.{ContainerEnds, ElementStands, LengthForm, Next, in_container, next_tag, primitive_contents}
use Rattle.x690.specs.Reading.{Done, Took, run}
use Rattle.x690.specs.Reads.{Refused, Said}
use Rattle.x690_laws.proofs.ReadingSteps.{next_steps, primitive_steps}
use Rattle.ber_pull.specs.Calls.{read_entering, read_next, read_primitive}
use Rattle.ber_pull.specs.Hears.{Hears, TakesFrom, heard_error, next_at}
use Rattle.ber_pull.specs.Standing.{Standing, after_next, closing, container_of, enclosing, enclosing_of, opening, place, used, without_first}
use Rattle.ber_pull.specs.declared.state.Container.{Container}
use Rattle.ber_pull.specs.declared.state.Given.{Given}
use Rattle.ber_pull.proofs.Hearing.{hears_said, takes_both}
use Rattle.ber_pull.proofs.Nexts.{place_taken}
use Rattle.ber_pull.specs.View.{IsReadFailure}
use Rattle.asn_elements.proofs.CallSteps.{call_steps}
use Rattle.ber_outline.specs.Announced.{announced}
use Rattle.ber_outline.specs.Outlines.{HeaderAt, StopsWith, innermost_of}
use Rattle.ber_outline.specs.Steps.{AllOpen, Leads, Ready, StopsAt, insides, position}
use Rattle.ber_outline.specs.declared.event.Event.TheVariants.{Begin, End, Primitive}
use Rattle.ber_outline.specs.declared.event.ElementHeader.{ElementHeader}
use Rattle.ber_outline.proofs.Positions.{closed_is, ended_some, heard_run, heard_takes, inside_is, insides_after, left_is, length_after, length_insides, open_all_after, opened, place_within, refused_run, takes_forward}

-- the place that was asked for
pub place_is : (s : Standing) (at : ℕ) → s.given ≡ None → at ≡ place s → at ≡ s.taken
place_is s at none is = is ∙ place_taken s none

-- what `next_tag` said of an element, or of the end, its place being that of the next octet
pub element_said : (s : Standing) (tag : Tag) (form : Bool) (next : Option (Tag × Bool)) (k : ℕ) (left left' : List ℕ)
    → s.given ≡ None → next ≡ Some (tag, form)
    → Hears (read_next s) s.taken (Some left) (Said (next_at (place s) next)) k (Some left')
    → Hears (read_next s) s.taken (Some left) (Said (ElementStands s.taken tag form)) k (Some left')
element_said s tag form next k left left' none is x =
    hears_said _ _ _ _ _ _ _ (ap (λ p. ElementStands p tag form) (place_taken s none))
    (hears_said _ _ _ _ _ _ _ (ap (next_at (place s)) is) x)

pub end_said : (s : Standing) (next : Option (Tag × Bool)) (k : ℕ) (left left' : List ℕ)
    → s.given ≡ None → next ≡ None
    → Hears (read_next s) s.taken (Some left) (Said (next_at (place s) next)) k (Some left')
    → Hears (read_next s) s.taken (Some left) (Said (ContainerEnds s.taken)) k (Some left')
end_said s next k left left' none is x =
    hears_said _ _ _ _ _ _ _ (ap ContainerEnds (place_taken s none))
    (hears_said _ _ _ _ _ _ _ (ap (next_at (place s)) is) x)

-- the header with this identifier, before these octets
abbrev made : Tag → Bool → ℕ → ℕ → ℕ → List ℕ → ElementHeader
made tag form at depth after rest = record {
  at = at;
  tag = tag;
  constructed = form;
  depth = depth;
  announced = announced after rest;
}

-- no container ends where none is open
ends_none : (cs : List Container) (limits : Limits) (place : ℕ) (left : List ℕ) → length cs ≡ 0
    → EndsHere limits (innermost_of (insides cs)) place left → ⊥
ends_none [] limits place left none e = ⊎_elim (λ x. let z = x in cc) (λ x. let z = x.0 in cc) e
ends_none (c ∷ cs) limits place left none e = let z = none in omega arith

module _ (document : List ℕ) (s : Standing) (left : List ℕ) (w : Ready document s left) where
  -- the next identifier, by the reading of headers
  next_run : run (next_tag s.limits (innermost_of (insides s.containers))) s.taken left ≡ run (read_next s) s.taken left
  next_run =
      ap (λ e. run (next_tag s.limits e) s.taken left) (sym (inside_is s.containers))
      ∙ sym (call_steps.next s s.taken left w.reading.none_given w.live)

  next_took : (next : Next) (k : ℕ) (left' : List ℕ)
      → Hears (read_next s) s.taken (Some left) (Said next) k (Some left')
      → run (next_tag s.limits (innermost_of (insides s.containers))) s.taken left ≡ Took next k left'
  next_took next k left' x = next_run ∙ heard_run (read_next s) next _ _ _ _ x

  pub next_stops : (f : Fault) (k : ℕ) (left' : List ℕ)
      → Hears (read_next s) s.taken (Some left) (Refused f) k (Some left')
      → StopsWith s.limits f None (position s left)
  next_stops f k left' x = next_run ∙ refused_run (read_next s) f _ _ _ _ x

  pub next_errs : (e : ReadError) (k : ℕ) (left' : List ℕ)
      → Hears (read_next s) s.taken (Some left) (heard_error e) k (Some left') → IsReadFailure false k e
      → StopsAt e None s left
  next_errs (errors.Fault f) k left' x failed = next_stops f k left' x
  next_errs (errors.Read at) k left' x failed = let z = failed.0 in cc
  next_errs errors.Memory k left' x failed = tt

  -- An element's identifier stands.
  module _ (tag : Tag) (form : Bool) (m : Standing) (left' : List ℕ)
      (next : Hears (read_next s) s.taken (Some left) (Said (ElementStands s.taken tag form)) m.taken (Some left'))
      (mid : m ≡ after_next m.taken (Some (tag, form)) s) (further : s.taken < m.taken) where
    abbrev the_given : Given
    the_given = record { at = s.taken; tag = tag; constructed = form }

    abbrev pub the_header : ElementHeader
    the_header = record {
      at = s.taken;
      tag = tag;
      constructed = form;
      depth = length s.containers;
      announced = announced m.taken left';
    }

    pub takes_after : TakesFrom 0 document m.taken left'
    takes_after = takes_both 0 s.taken m.taken document left left' w.reading.takes (heard_takes _ _ _ _ _ _ next)

    -- the place after the identifier
    pub behind_is : s.taken + length (identifier tag form) ≡ m.taken
    behind_is =
        let stands = next_steps.stands s.limits (innermost_of (insides s.containers)) s.taken left s.taken tag form
        m.taken left' (next_took _ _ _ next) in
        sym stands.1.behind_is

    pub after_within : s.taken + length (identifier tag form) ≤ length document
    after_within =
        subst (λ k. k ≤ length document) (sym behind_is) (place_within document m.taken left' takes_after)

    -- what the header says that is made of the octets of the document
    pub header_is : (at depth : ℕ) → at ≡ s.taken → depth ≡ length s.containers
        → record {
          at = at;
          tag = tag;
          constructed = form;
          depth = depth;
          announced = announced (at + length (identifier tag form))
              (drop (at + length (identifier tag form)) document);
        } ≡ the_header
    header_is at depth is deep =
        ap (λ p. made tag form p depth (p + length (identifier tag form))
        (drop (p + length (identifier tag form)) document)) is
        ∙ (ap (λ d. made tag form s.taken d (s.taken + length (identifier tag form))
        (drop (s.taken + length (identifier tag form)) document)) deep
        ∙ (ap (λ k. made tag form s.taken (length s.containers) k (drop k document)) behind_is
        ∙ ap (made tag form s.taken (length s.containers) m.taken) (left_is document m.taken left' takes_after)))

    is_header_at : HeaderAt s.limits the_header (position s left) m.taken left'
    is_header_at = record {
      identifier = next_took _ _ _ next;
      depth = length_insides s.containers;
      announces = refl;
    }

    primitive_run : form ≡ false
        → run (primitive_contents s.limits (innermost_of (insides s.containers)) s.taken) m.taken left'
        ≡ run (read_primitive m the_given) m.taken left'
    primitive_run is =
        ap (λ e. run (primitive_contents s.limits e s.taken) m.taken left') (sym (inside_is s.containers))
        ∙ (ap (λ z. run (primitive_contents z.limits (enclosing z) s.taken) m.taken left') (sym mid)
        ∙ sym (call_steps.primitive m the_given m.taken left' is))

    enter_run : form ≡ true
        → run (in_container s.limits (innermost_of (insides s.containers)) s.taken true Done) m.taken left'
        ≡ run (read_entering m the_given) m.taken left'
    enter_run is =
        ap (λ e. run (in_container s.limits e s.taken true Done) m.taken left') (sym (inside_is s.containers))
        ∙ (ap (λ z. run (in_container z.limits (enclosing z) s.taken true Done) m.taken left') (sym mid)
        ∙ (ap (λ b. run (in_container m.limits (enclosing m) s.taken b Done) m.taken left') (sym is)
        ∙ sym (call_steps.enter m the_given m.taken left')))

    pub primitive_stops : (f : Fault) (k : ℕ) (left'' : List ℕ) → form ≡ false
        → Hears (read_primitive m the_given) m.taken (Some left') (Refused f) k (Some left'')
        → StopsWith s.limits f (Some the_header) (position s left)
    primitive_stops f k left'' is x = (
      m.taken,
      left',
      is_header_at,
      rw is (primitive_run is ∙ refused_run (read_primitive m the_given) f _ _ _ _ x),
    )

    pub enter_stops : (f : Fault) (k : ℕ) (left'' : List ℕ) → form ≡ true
        → Hears (read_entering m the_given) m.taken (Some left') (Refused f) k (Some left'')
        → StopsWith s.limits f (Some the_header) (position s left)
    enter_stops f k left'' is x = (
      m.taken,
      left',
      is_header_at,
      rw is (enter_run is ∙ refused_run (read_entering m the_given) f _ _ _ _ x),
    )

    pub primitive_errs : (e : ReadError) (k : ℕ) (left'' : List ℕ) → form ≡ false
        → Hears (read_primitive m the_given) m.taken (Some left') (heard_error e) k (Some left'')
        → IsReadFailure false k e
        → StopsAt e (Some the_header) s left
    primitive_errs (errors.Fault f) k left'' is x failed = primitive_stops f k left'' is x
    primitive_errs (errors.Read at) k left'' is x failed = let z = failed.0 in cc
    primitive_errs errors.Memory k left'' is x failed = tt

    pub enter_errs : (e : ReadError) (k : ℕ) (left'' : List ℕ) → form ≡ true
        → Hears (read_entering m the_given) m.taken (Some left') (heard_error e) k (Some left'')
        → IsReadFailure false k e
        → StopsAt e (Some the_header) s left
    enter_errs (errors.Fault f) k left'' is x failed = enter_stops f k left'' is x
    enter_errs (errors.Read at) k left'' is x failed = let z = failed.0 in cc
    enter_errs errors.Memory k left'' is x failed = tt

    -- A primitive element stands, all of it.
    pub primitive_leads : (contents : List ℕ) (n : Standing) (left'' : List ℕ) (begin end : ℕ) → form ≡ false
        → Hears (read_primitive m the_given) m.taken (Some left') (Said contents) n.taken (Some left'')
        → n.error ≡ None → n ≡ used n.taken m → end ≡ n.taken → begin ≡ end - length contents
        → Leads document (Primitive the_header begin end) s left n left''
    primitive_leads contents n left'' begin end is reads fine uses ends begins =
        let same : n.containers ≡ s.containers = ap (λ z. z.containers) uses ∙ ap (λ z. z.containers) mid in
        let took = primitive_run is ∙ heard_run (read_primitive m the_given) contents _ _ _ _ reads in
        let stands = primitive_steps.stands s.limits (innermost_of (insides s.containers)) s.taken m.taken left'
        contents n.taken left'' took in
        let counted : n.taken ≡ stands.0 + length contents = stands.1 in
        let takes = heard_takes _ _ _ _ _ _ reads in
        let forward : m.taken ≤ n.taken = takes_forward _ _ _ _ takes in
        let many : length n.containers ≡ length s.containers = ap length same in
        let sum : begin + length contents ≡ end = omega arith in
        let fewer : 1 + 2 * s.taken + length n.containers ≤ 2 * n.taken + length s.containers = omega arith in
        record {
          happens = (m.taken, left', contents, is_header_at, is, took, sum, ends, ap insides same);
          reading = record {
            fine = fine;
            none_given = ap (λ z. z.given) uses;
            open_all = subst AllOpen (sym same) w.reading.open_all;
            takes = takes_both 0 m.taken n.taken document left' left'' takes_after takes;
          };
          same_limits = ap (λ z. z.limits) uses ∙ ap (λ z. z.limits) mid;
          depth = many;
          fewer = fewer;
        }

    -- A container opens.
    pub begin_leads : (n : Standing) (left'' : List ℕ) (begin : ℕ) (shape : LengthForm) → form ≡ true
        → Hears (read_entering m the_given) m.taken (Some left') (Said (enclosing n)) n.taken (Some left'')
        → n.error ≡ None → n ≡ opening shape (used n.taken m) → begin ≡ n.taken
        → Leads document (Begin the_header begin) s left n left''
    begin_leads n left'' begin shape is reads fine opens begins =
        let c = container_of shape (used n.taken m) in
        let same : n.containers ≡ c ∷ s.containers =
        ap (λ z. z.containers) opens ∙ ap (λ cs. c ∷ cs) (ap (λ z. z.containers) mid) in
        let took = enter_run is ∙ heard_run (read_entering m the_given) (enclosing n) _ _ _ _ reads in
        let takes = heard_takes _ _ _ _ _ _ reads in
        let forward : m.taken ≤ n.taken = takes_forward _ _ _ _ takes in
        let many : length n.containers ≡ suc (length s.containers) = ap length same in
        let deep : length n.containers ≡ length s.containers + 1 = omega arith in
        let fewer : 1 + 2 * s.taken + length n.containers ≤ 2 * n.taken + length s.containers = omega arith in
        record {
          happens = (
            m.taken,
            left',
            enclosing n,
            is_header_at,
            is,
            took,
            begins,
            ap insides same ∙ ap (λ e. e ∷ insides s.containers) (ap enclosing_of (sym same)),
          );
          reading = record {
            fine = fine;
            none_given = ap (λ z. z.given) opens;
            open_all = subst AllOpen (sym same) (opened shape (used n.taken m), w.reading.open_all);
            takes = takes_both 0 m.taken n.taken document left' left'' takes_after takes;
          };
          same_limits = ap (λ z. z.limits) opens ∙ ap (λ z. z.limits) mid;
          depth = deep;
          fewer = fewer;
        }

  -- The innermost container ends.
  module _ (m l : Standing) (left' : List ℕ)
      (next : Hears (read_next s) s.taken (Some left) (Said (ContainerEnds s.taken)) m.taken (Some left'))
      (mid : m ≡ after_next m.taken None s) where
    -- there is one
    pub some_open : length s.containers ≡ 0 → ⊥
    some_open none =
        ends_none s.containers s.limits s.taken left none
        (next_steps.ends s.limits (innermost_of (insides s.containers)) s.taken left s.taken m.taken left'
        (next_took _ _ _ next)).1

    pub still_some : m.containers ≡ [] → ⊥
    still_some is = ended_some s.containers some_open (sym (ap (λ z. z.containers) mid) ∙ is)

    pub end_leads : l ≡ closing m → l.error ≡ None → (end : ℕ) → end ≡ s.taken
        → Leads document (End end) s left l left'
    end_leads closes fine end is =
        let after : l.containers ≡ without_first s.containers =
        ap (λ z. z.containers) closes ∙ (ap (λ z. without_first z.containers) mid ∙ closed_is s.containers) in
        let took : l.taken ≡ m.taken = ap (λ z. z.taken) closes in
        let takes = heard_takes _ _ _ _ _ _ next in
        let forward : s.taken ≤ m.taken = takes_forward _ _ _ _ takes in
        let many : length l.containers ≡ length s.containers - 1 = ap length after ∙ length_after s.containers in
        let some = some_open in
        let fewer : 1 + 2 * s.taken + length l.containers ≤ 2 * l.taken + length s.containers = omega arith in
        record {
          happens = (
            next_took _ _ _ next ∙ (ap (λ p. Took (ContainerEnds p) m.taken left') (sym is)
                ∙ ap (λ k. Took (ContainerEnds end) k left') (sym took)),
            ap insides after ∙ insides_after s.containers,
          );
          reading = record {
            fine = fine;
            none_given = ap (λ z. z.given) closes ∙ (ap (λ z. z.given) mid ∙ w.reading.none_given);
            open_all = subst AllOpen (sym after) (open_all_after s.containers w.reading.open_all);
            takes = subst (λ k. TakesFrom 0 document k left') (sym took)
                (takes_both 0 s.taken m.taken document left left' w.reading.takes takes);
          };
          same_limits = ap (λ z. z.limits) closes ∙ ap (λ z. z.limits) mid;
          depth = many;
          fewer = fewer;
        }
