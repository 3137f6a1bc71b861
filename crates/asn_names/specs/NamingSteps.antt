-- Naming over the headers of a document, one event after another.
use Rattle.std.specs.Prelude.{Bool, List, None, Option, Some, [], cond, drop, false, length, reverse, slice_get, slice_set, true, ℕ, ◌+◌, ◌++◌, ◌∷◌}
use Rattle.std.specs.Borrow.{Bor}
use Rattle.tlv_core.specs.Identifier.{Tag}
use Rattle.ber_outline.specs.declared.announced.Announced.{Announced}
use Rattle.ber_outline.specs.declared.event.Event.{Event}
use Rattle.ber_outline.specs.declared.event.Event.TheVariants as events
use Rattle.ber_outline.specs.declared.event.ElementHeader.{ElementHeader}
use Rattle.ber_outline.specs.declared.event.Stop.{Stop}
use Rattle.pkix_shapes.specs.declared.shape.Shape.{Choice', Containing', DefinedBy', Leaf, ListOf', Named', Open, Private', Refused, Sequence', SetOf', Shape}
use Rattle.asn_names.specs.Levels.{level_of, may_close, outermost, place_in}
use Rattle.asn_names.specs.Resolving.{leaf_at, resolved}
use Rattle.asn_names.specs.declared.element.NamedElement.{NamedElement}
use Rattle.asn_names.specs.declared.element.Level.{Level}
use Rattle.asn_names.specs.declared.element.Mismatch.{Mismatch}
use Rattle.asn_names.specs.declared.element.Mismatch.TheVariants as mismatches
use Rattle.asn_names.specs.declared.element.Step.{Step}
use Rattle.asn_names.specs.declared.element.Step.TheVariants as steps
use Rattle.asn_names.specs.declared.level.Place.{Place}
use Rattle.asn_names.specs.declared.resolved.Resolved.{Resolved}
use Rattle.asn_names.specs.declared.naming_state.Beginning.{Beginning}
use Rattle.asn_names.specs.declared.naming_state.Taken.{Taken}
use Rattle.asn_names.specs.declared.naming_state.Typed.{Typed}
use Rattle.asn_names.specs.declared.naming_state.NamingState.{NamingState}

-- Between two events: the elements until now, and the open containers by their numbers, the innermost first, with what
-- is due in each.
pub record State : Type 0 where
  pub elements : List NamedElement
  pub containers : List (ℕ × Level)

-- what the state says
abbrev pub state_of : NamingState → State
state_of naming = record { elements = naming.elements.items; containers = reverse naming.containers.items }

-- The place of an element of the tag: what the innermost open container has for it, or it is the outermost element.
-- Where it has no place, it is shown what is due.
abbrev pub taken : List (ℕ × Level) → Bor Shape → Tag → Taken
taken [] root tag = record { around = 0; place = outermost root tag; due = mismatches.Outermost }
taken (container ∷ outer) root tag = record {
  around = container.0;
  place = place_in container.1 tag;
  due = mismatches.Unplaced container.0 container.1;
}

abbrev pub private_of : Option NamedElement → Bool
private_of None = false
private_of (Some element) = element.private

-- whether the element of this number is private
abbrev pub is_private : List NamedElement → ℕ → Bool
is_private elements number = private_of (slice_get elements number)

abbrev pub typed_by : Resolved → Typed
typed_by resolved =
    record { type_name = resolved.type_name; shape = Some resolved.shape; private = resolved.private }

-- The type of an element in the container of this number, as its place has it: it is private too where the container
-- is. A segment has none.
abbrev pub typed_as : List ℕ → List NamedElement → ℕ → ElementHeader → Option (Bor Shape) → Typed
typed_as document elements around header None =
    record { type_name = None; shape = None; private = is_private elements around }
typed_as document elements around header (Some shape) =
    typed_by (resolved (λ path. leaf_at document header.depth path (drop (around + 1) elements)) header.tag None
    (is_private elements around) shape.ref_ptr shape.now)

-- whether it is the type of what may not stand
abbrev pub is_refused_type : Shape → Bool
is_refused_type (Refused own) = true
is_refused_type (Leaf own contents) = false
is_refused_type Open = false
is_refused_type (ListOf' own least p shape) = false
is_refused_type (SetOf' own least p shape) = false
is_refused_type (Sequence' own p fields) = false
is_refused_type (Containing' own p shape) = false
is_refused_type (DefinedBy' path identifiers p first q second) = false
is_refused_type (Choice' p first q second) = false
is_refused_type (Named' name p shape) = false
is_refused_type (Private' p shape) = false

abbrev pub is_refused : Option (Bor Shape) → Bool
is_refused None = false
is_refused (Some shape) = is_refused_type shape.now

-- an element at its place
abbrev pub listed : ℕ → Step → Typed → Beginning → NamedElement
listed around step typed beginning = record {
  header = beginning.header;
  begin = beginning.begin;
  end = beginning.end;
  around = around;
  step = step;
  type_name = typed.type_name;
  shape = typed.shape;
  private = typed.private;
}

-- an element that has no place, which is private
abbrev pub unplaced : ℕ → Beginning → NamedElement
unplaced around beginning =
    listed around steps.Outside (record { type_name = None; shape = None; private = true }) beginning

-- the container around an element, with what is due after the element
abbrev pub with_after : ℕ → Option Level → List (ℕ × Level) → List (ℕ × Level)
with_after around None outer = outer
with_after around (Some level) outer = (around, level) ∷ outer

-- the element of this number among the open ones, if it is open from here on
abbrev pub with_opened : Bool → ℕ → Level → List (ℕ × Level) → List (ℕ × Level)
with_opened opens number level outer = cond opens ((number, level) ∷ outer) outer

-- an element more
abbrev pub with_element : NamedElement → State → State
with_element element state = record { elements = state.elements ++ (element ∷ []); containers = state.containers }

-- an element without a place ends naming
abbrev pub begins_outside : Beginning → Taken → State → State × Option Mismatch
begins_outside beginning taken state = (with_element (unplaced taken.around beginning) state, Some taken.due)

-- which containers are open after the header of an element of this type at its place
abbrev pub open_after : Beginning → ℕ → Place → Typed → State → State
open_after beginning around place typed state = record {
  elements = state.elements;
  containers = with_opened beginning.opens (length state.elements) (level_of beginning.header.tag typed.shape)
      (with_after around place.after state.containers);
}

-- an element of this type at its place
abbrev pub begins_as : Beginning → ℕ → Place → Typed → State → State
begins_as beginning around place typed state =
    with_element (listed around place.step typed beginning) (open_after beginning around place typed state)

abbrev pub begins_typed : Beginning → Taken → Place → Typed → State → State × Option Mismatch
begins_typed beginning taken place typed state =
    cond (is_refused typed.shape) (begins_outside beginning taken state)
    (begins_as beginning taken.around place typed state, None)

-- an element at its place, unless its type may not be there
abbrev pub begins_at : List ℕ → Beginning → Taken → Place → State → State × Option Mismatch
begins_at document beginning taken place state =
    begins_typed beginning taken place
    (typed_as document state.elements taken.around beginning.header place.shape) state

abbrev pub begins : List ℕ → Beginning → Taken → Option Place → State → State × Option Mismatch
begins document beginning taken None state = begins_outside beginning taken state
begins document beginning taken (Some place) state = begins_at document beginning taken place state

-- the containers around the innermost open one
abbrev pub without_innermost : State → State
without_innermost state = record { elements = state.elements; containers = drop 1 state.containers }

abbrev pub begins_taken : List ℕ → Beginning → Taken → State → State × Option Mismatch
begins_taken document beginning taken state = begins document beginning taken taken.place state

-- An element begins.
abbrev pub began : List ℕ → Bor Shape → Beginning → State → State × Option Mismatch
began document root beginning state =
    begins_taken document beginning (taken state.containers root beginning.header.tag) (without_innermost state)

-- an element among others ends there
abbrev pub with_end : ℕ → ℕ → List NamedElement → Option NamedElement → List NamedElement
with_end number at elements None = elements
with_end number at elements (Some element) = slice_set elements number (record element { end = Some at })

-- the element of this number ends there
abbrev pub ended_at : ℕ → ℕ → List NamedElement → List NamedElement
ended_at number at elements = with_end number at elements (slice_get elements number)

-- where something is still due in a container that ends
abbrev pub missing_in : ℕ → Level → Option Mismatch
missing_in number level = cond (may_close level) None (Some (mismatches.Missing number level))

-- The innermost open container ends.
abbrev pub ended_in : ℕ → List NamedElement → List (ℕ × Level) → State × Option Mismatch
ended_in at elements [] = (record { elements = elements; containers = [] }, None)
ended_in at elements (container ∷ outer) = (
  record { elements = ended_at container.0 at elements; containers = outer },
  missing_in container.0 container.1,
)

abbrev pub ended : ℕ → State → State × Option Mismatch
ended at state = ended_in at state.elements state.containers

-- an element that is whole, or a container that begins
abbrev pub primitive : ElementHeader → ℕ → ℕ → Beginning
primitive header begin end = record { header = header; begin = Some begin; end = Some end; opens = false }

abbrev pub container : ElementHeader → ℕ → Beginning
container header begin = record { header = header; begin = Some begin; end = None; opens = true }

-- One event happens.
abbrev pub happened : List ℕ → Bor Shape → Event → State → State × Option Mismatch
happened document root (events.Primitive header begin end) state =
    began document root (primitive header begin end) state
happened document root (events.Begin header begin) state = began document root (container header begin) state
happened document root (events.End at) state = ended at state

-- where the contents begin, by the length octets
abbrev pub contents_begin : Option Announced → Option ℕ
contents_begin None = None
contents_begin (Some announced) = Some announced.contents

-- the element that reading stops in
abbrev pub stopped_in : ElementHeader → Beginning
stopped_in header =
    record { header = header; begin = contents_begin header.announced; end = None; opens = false }

-- the innermost one
abbrev pub innermost : List (ℕ × Level) → Option (ℕ × Level)
innermost [] = None
innermost (container ∷ outer) = Some container

-- a mismatch, if there is none yet
abbrev pub or_else : Mismatch → State × Option Mismatch → State × Mismatch
or_else mismatch next = elim next.1 [ None ↦ (next.0, mismatch) | Some earlier ↦ (next.0, earlier) ]

-- All events have happened: reading stops in an element, at an identifier, or the outermost element is whole.
abbrev pub stopped_by : List ℕ → Bor Shape → Option ElementHeader → State → State × Mismatch
stopped_by document root None state = (state, mismatches.Stopped (innermost state.containers))
stopped_by document root (Some header) state =
    let next = began document root (stopped_in header) state in
    or_else (mismatches.Stopped (innermost next.0.containers)) next

abbrev pub whole_or_open : List (ℕ × Level) → Mismatch
whole_or_open [] = mismatches.Nowhere
whole_or_open (container ∷ outer) = mismatches.Stopped (Some container)

abbrev pub stopped : List ℕ → Bor Shape → Option Stop → State → State × Mismatch
stopped document root None state = (state, whole_or_open state.containers)
stopped document root (Some stop) state = stopped_by document root stop.element state
