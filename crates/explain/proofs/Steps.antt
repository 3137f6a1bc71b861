-- The steps from the outermost element to another one.
use Rattle.std.proofs.Common.{List, None, Option, Some, ℕ, [], ap, cond, false, inl, inr, refl, subst, suc, sym, true, zero, ◌++◌, ◌∙◌, ◌≡◌}
use Rattle.std.proofs.lemmas.List.{append-nil, append_assoc}
use Rattle.std.specs.List.{slice_get}
use Rattle.std.specs.Option.{is_some}
use Rattle.asn_names.specs.declared.element.NamedElement.{NamedElement}
use Rattle.asn_names.specs.declared.element.Mismatch.{Mismatch}
use Rattle.asn_names.specs.declared.element.Step.{Step}
use Rattle.tlv_core.specs.declared.fault.Fault.{Fault}
use Rattle.tlv_core.specs.declared.reason.Reason.{Reason}
use Rattle.explain.specs.FaultContainers.{IsNearest, end_of}
use Rattle.explain.specs.Disclosures.{AddsFaultPath, AddsInnerPath, IsDisclosedPath, IsFaultPathIn, is_near, names_in}
use Rattle.explain.specs.Insides.{inside_at}
use Rattle.explain.specs.FaultLocations.{AddsPath, AddsPathTo, IsPathBy, IsPathTo, due_steps, enclosed, location_at, own_step}
use Rattle.explain.specs.declared.document.inside.Inside.{Inside}
use Rattle.explain.specs.declared.fault.location.FaultLocation.{FaultLocation}

-- to the outermost one there are none
pub top_path : (elements : List NamedElement) (number : ℕ) (old : List Step) → enclosed elements number ≡ None
    → AddsPath elements number old old
top_path elements number old top = ([], sym (append-nil old), (zero, (top, refl)))

-- an element's own step comes after those to the element around it
pub add_step : (elements : List NamedElement) (number : ℕ) (element : NamedElement) (old mid new : List Step)
    → enclosed elements number ≡ Some element → AddsPath elements element.around old mid
    → new ≡ mid ++ own_step element.step → AddsPath elements number old new
add_step elements number element old mid new inner around e = (
  around.0 ++ own_step element.step,
  e ∙ (ap (λ steps. steps ++ own_step element.step) around.1 ∙ append_assoc old around.0 (own_step element.step)),
  (suc around.2.0, (element, inner, around.0, around.2.1, refl)),
)

-- to the container, and from there to what is due in it
pub due_path : (elements : List NamedElement) (location : FaultLocation) (container number : ℕ)
    (found : Option NamedElement)
    (old mid new : List Step) → location.container ≡ Some container → location.element ≡ Some number
    → AddsPath elements container old mid → found ≡ slice_get elements number
    → new ≡ mid ++ due_steps location.level found → AddsPathTo elements location old new
due_path elements location container number found old mid new at in_place around listed e =
    let due = due_steps location.level (slice_get elements number) in (
      around.0 ++ due,
      e
          ∙ (ap (λ one. mid ++ due_steps location.level one) listed
          ∙ (ap (λ steps. steps ++ due) around.1 ∙ append_assoc old around.0 due)),
      subst (λ c. IsPathBy elements c location.element location.level (around.0 ++ due)) (sym at)
          (subst (λ n. IsPathBy elements (Some container) n location.level (around.0 ++ due)) (sym in_place)
          (around.0, around.2, refl)),
    )

pub none_nearest : (elements : List NamedElement) (number : ℕ) → enclosed elements number ≡ None
    → IsNearest elements number None
none_nearest elements number top = (zero, (top, refl))

pub first_nearest : (elements : List NamedElement) (number : ℕ) (element : NamedElement)
    → enclosed elements number ≡ Some element
    → is_some (end_of (slice_get elements element.around)) ≡ true → IsNearest elements number (Some element.around)
first_nearest elements number element inner has = (suc zero, (element, inner, inl (has, refl)))

pub later_nearest : (elements : List NamedElement) (number : ℕ) (element : NamedElement) (found : Option ℕ)
    → enclosed elements number ≡ Some element → is_some (end_of (slice_get elements element.around)) ≡ false
    → IsNearest elements element.around found → IsNearest elements number found
later_nearest elements number element found inner has later =
    (suc later.0, (element, inner, inr (has, later.1)))

-- the path to what a fault in the file is about
pub path_outside : (elements : List NamedElement) (mismatch : Mismatch) (insides : List Inside) (fault : Fault)
    (old new : List Step) → fault.inside ≡ None
    → AddsPathTo elements (location_at elements mismatch fault.at fault.why) old new
    → AddsFaultPath elements mismatch insides fault old new
path_outside elements mismatch insides fault old new none adds = (
  adds.0,
  adds.1,
  subst (λ inner. IsFaultPathIn elements mismatch fault inner (inside_at elements insides fault.at) adds.0) (sym none)
      adds.2,
)

-- the same of one inside an element that no document is known of
pub path_around : (elements : List NamedElement) (mismatch : Mismatch) (insides : List Inside) (fault : Fault)
    (inner : ℕ × Reason) (found : Option Inside) (old new : List Step) → fault.inside ≡ Some inner
    → found ≡ inside_at elements insides fault.at → found ≡ None
    → AddsPathTo elements (location_at elements mismatch fault.at fault.why) old new
    → AddsFaultPath elements mismatch insides fault old new
path_around elements mismatch insides fault inner found old new some is none adds = (
  adds.0,
  adds.1,
  subst (λ one. IsFaultPathIn elements mismatch fault one (inside_at elements insides fault.at) adds.0) (sym some)
      (subst (λ inside. IsFaultPathIn elements mismatch fault (Some inner) inside adds.0) (sym none ∙ is) adds.2),
)

-- of one inside an element the path to that, and from there on
pub path_inside : (elements : List NamedElement) (mismatch : Mismatch) (insides : List Inside) (fault : Fault) (at : ℕ)
    (why : Reason) (inside : Inside) (found : Option Inside) (old new : List Step) → fault.inside ≡ Some (at, why)
    → found ≡ inside_at elements insides fault.at → found ≡ Some inside → AddsInnerPath elements inside at why old new
    → AddsFaultPath elements mismatch insides fault old new
path_inside elements mismatch insides fault at why inside found old new some is one adds = (
  adds.0,
  adds.1,
  subst (λ inner. IsFaultPathIn elements mismatch fault inner (inside_at elements insides fault.at) adds.0) (sym some)
      (subst (λ it. IsFaultPathIn elements mismatch fault (Some (at, why)) it adds.0) (sym one ∙ is) adds.2),
)

pub path_in : (elements : List NamedElement) (inside : Inside) (at : ℕ) (why : Reason) (location : FaultLocation)
    (old mid new : List Step) → AddsPath elements inside.container old mid
    → location ≡ location_at inside.named.elements.items inside.named.mismatch at why
    → AddsPathTo inside.named.elements.items location mid new → AddsInnerPath elements inside at why old new
path_in elements inside at why location old mid new outer is inner = (
  outer.0 ++ inner.0,
  inner.1 ∙ (ap (λ steps. steps ++ inner.0) outer.1 ∙ append_assoc old outer.0 inner.0),
  (outer.0, inner.0, outer.2, subst (λ one. IsPathTo inside.named.elements.items one inner.0) is inner.2, refl),
)

-- the path that is shown: all of it, or its names
pub path_disclosed : (elements : List NamedElement) (mismatch : Mismatch) (insides : List Inside) (fault : Fault)
    (front : ℕ)
    (old new : List Step) → old ≡ [] → AddsFaultPath elements mismatch insides fault old new
    → is_near fault front ≡ true → IsDisclosedPath elements mismatch insides fault front new
path_disclosed elements mismatch insides fault front old new none adds near =
    let same : new ≡ adds.0 = adds.1 ∙ ap (λ steps. steps ++ adds.0) none in (
      adds.0,
      adds.2,
      same ∙ sym (ap (λ is. cond is adds.0 (names_in adds.0)) near),
    )

pub path_named : (elements : List NamedElement) (mismatch : Mismatch) (insides : List Inside) (fault : Fault)
    (front : ℕ)
    (old mid new : List Step) → old ≡ [] → AddsFaultPath elements mismatch insides fault old mid → new ≡ names_in mid
    → is_near fault front ≡ false → IsDisclosedPath elements mismatch insides fault front new
path_named elements mismatch insides fault front old mid new none adds names far =
    let same : mid ≡ adds.0 = adds.1 ∙ ap (λ steps. steps ++ adds.0) none in (
      adds.0,
      adds.2,
      names ∙ (ap names_in same ∙ sym (ap (λ is. cond is adds.0 (names_in adds.0)) far)),
    )
