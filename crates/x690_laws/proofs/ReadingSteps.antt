-- Single steps of the plain reading, as the definitions have them.
use Rattle.std.proofs.Common.{◌≡◌, ◌∙◌, ℕ, ⊎_elim, Bool, List, sym, subst}
use Rattle.tlv_core.specs.Limits.{Limits}
use Rattle.tlv_core.specs.declared.fault.Fault.{Fault}
use Rattle.x690.specs.ContentsFaults.{PrimitiveStops}
use Rattle.x690.specs.HeaderFaults.{Opens, StopsInForm}
use Rattle.x690.specs.Points.{Enclosing}
use Rattle.x690.specs.ReadHeaders.{in_container, primitive_contents}
use Rattle.x690.specs.Reading.{Done, Halted, Took, run}
use Rattle.x690.proofs.Runs.{bind_done, halted_done, took_done}
use Rattle.x690_laws.proofs.FaultsOfContents.{all_halt, all_run, all_stand, all_stop, one_halts, one_run, one_stands, one_stops, primitive_halt, primitive_run, primitive_stands, primitive_stop}
use Rattle.x690_laws.proofs.FaultsOfHeaders.{ends_of, ends_run, stands_of, stands_run, tag_halts, tag_stops}
use Rattle.x690_laws.proofs.ReadingOfHeaders.{done_on}
use Rattle.x690_laws.proofs.ReadingMembers.{container_halts, container_takes, form_halts, opened_on}
use Rattle.x690_laws.specs.StepLaws.{ContainerSteps, NextSteps, PrimitiveSteps, StringSteps}

pub next_steps : NextSteps
next_steps = record {
  stands = stands_of;
  stands_so = stands_run;
  ends = ends_of;
  ends_so = ends_run;
  stops = tag_stops;
  stops_so = tag_halts;
}

opened_so : (l : Limits) (c : Enclosing) (p : ℕ) (form : Bool) (k : ℕ) (s : List ℕ) (i : Enclosing) (j : ℕ) (u : List ℕ)
    → run (in_container l c p form Done) k s ≡ Took i j u → Opens l c form k s i j u
opened_so l c p form k s i j u h =
    let x = container_takes l c p form Done k s i j u h in
    let d = took_done x.0 x.1 x.2 i j u x.5 in
    subst (λ w. Opens l c form k s w j u) d.0
    (subst (λ w. Opens l c form k s x.0 w u) d.1 (subst (λ w. Opens l c form k s x.0 x.1 w) d.2 x.3))

stopped_so : (l : Limits) (c : Enclosing) (p : ℕ) (form : Bool) (k : ℕ) (s : List ℕ) (f : Fault)
    → run (in_container l c p form Done) k s ≡ Halted f → StopsInForm l c p form k s f
stopped_so l c p form k s f h =
    ⊎_elim (λ a. a) (λ b. absurd (halted_done b.0 b.1 b.2 f b.5)) (container_halts l c p form Done k s f h)

pub container_steps : ContainerSteps
container_steps = record {
  opens = opened_so;
  opens_so = λ l c p form k s i j u h. opened_on l c p form Done k s i j u h ∙ done_on i j u;
  stops = stopped_so;
  stops_so = λ l c p form k s f h. form_halts l c p form Done k s f h;
}

primitive_stops : (l : Limits) (c : Enclosing) (p k : ℕ) (s : List ℕ) (f : Fault)
    → run (primitive_contents l c p) k s ≡ Halted f → PrimitiveStops l c p k s (λ contents. ⊥) f
primitive_stops l c p k s f h =
    primitive_stop l c p k s f (λ o. Done o) (λ contents. ⊥) (λ o q r g. halted_done o q r f g)
    (bind_done (primitive_contents l c p) k s ∙ h)

primitive_halts : (l : Limits) (c : Enclosing) (p k : ℕ) (s : List ℕ) (f : Fault)
    → PrimitiveStops l c p k s (λ contents. ⊥) f → run (primitive_contents l c p) k s ≡ Halted f
primitive_halts l c p k s f h =
    sym (bind_done (primitive_contents l c p) k s)
    ∙ primitive_halt l c p k s f (λ o. Done o) (λ contents. ⊥) (λ o q r b. absurd b) h

pub primitive_steps : PrimitiveSteps
primitive_steps =
    record { stands = primitive_stands; stands_so = primitive_run; stops = primitive_stops; stops_so = primitive_halts }

pub string_steps : StringSteps
string_steps = record {
  one_stands = one_stands;
  one_stands_so = one_run;
  one_stops = one_stops;
  one_stops_so = one_halts;
  all_stand = all_stand;
  all_stand_so = all_run;
  all_stop = all_stop;
  all_stop_so = all_halt;
}
