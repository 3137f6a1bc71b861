-- What a fault is about among the elements of a document, and the steps that lead there.
use Rattle.std.specs.Prelude.{Bool, List, None, Option, Some, [], cond, drop, false, length, nat_le, suc, true, unwrap_or, zero, ℕ, ◌+◌, ◌++◌, ◌-◌, ◌∷◌, ◌≡◌, ◌==◌, ◌||◌, ◌&&◌, not}
use Rattle.std.specs.List.{slice_get}
use Rattle.std.specs.Option.{is_none, option_map}
use Rattle.asn_names.specs.declared.element.NamedElement.{NamedElement}
use Rattle.asn_names.specs.declared.element.Level.{Level}
use Rattle.asn_names.specs.declared.element.Level.TheVariants as levels
use Rattle.asn_names.specs.declared.element.Mismatch.{Mismatch}
use Rattle.asn_names.specs.declared.element.Mismatch.TheVariants.{Missing, Nowhere, Outermost as OutermostMismatch, Stopped, Unplaced}
use Rattle.asn_names.specs.declared.element.Step.{Step}
use Rattle.asn_names.specs.declared.element.Step.TheVariants.{Field, Member, Outermost, Outside, Segment}
use Rattle.pkix_shapes.specs.Dues.{match_in}
use Rattle.pkix_shapes.specs.declared.due.FieldMatch.{FieldMatch}
use Rattle.pkix_shapes.specs.declared.due.FieldMatch.TheVariants as matches
use Rattle.pkix_shapes.specs.declared.shape.Shape.{Choice', Containing', DefinedBy', Leaf, ListOf', Named', Open, Private', Refused, Sequence', SetOf', Shape}
use Rattle.tlv_core.specs.Identifier.{Tag}
use Rattle.tlv_core.specs.declared.reason.Reason.{Reason}
use Rattle.tlv_core.specs.declared.reason.Reason.TheVariants as reasons
use Rattle.explain.specs.declared.fault.location.FaultLocation.{FaultLocation}

-- the number of the first of the elements, counted from here, whose identifier is at this place
abbrev pub number_from : ℕ → ℕ → List NamedElement → Option ℕ
number_from number at [] = None
number_from number at (element ∷ elements) =
    cond (element.header.at == at) (Some number) (number_from (number + 1) at elements)

abbrev pub element_of : List NamedElement → Option ℕ → Option NamedElement
element_of elements None = None
element_of elements (Some number) = slice_get elements number

-- the first of the elements whose identifier is at this place
abbrev pub element_with : List NamedElement → ℕ → Option NamedElement
element_with elements at = element_of elements (number_from 0 at elements)

-- the number of the first private one
abbrev pub private_from : ℕ → List NamedElement → Option ℕ
private_from number [] = None
private_from number (element ∷ elements) =
    cond element.private (Some number) (private_from (number + 1) elements)

abbrev pub is_sequence_type : Shape → Bool
is_sequence_type (Sequence' own p fields) = true
is_sequence_type (Leaf own contents) = false
is_sequence_type Open = false
is_sequence_type (ListOf' own least p member) = false
is_sequence_type (SetOf' own least p member) = false
is_sequence_type (Containing' own p shape) = false
is_sequence_type (Refused own) = false
is_sequence_type (DefinedBy' path identifiers p first q second) = false
is_sequence_type (Choice' p first q second) = false
is_sequence_type (Named' name p shape) = false
is_sequence_type (Private' p shape) = false

abbrev pub is_sequence_of : Option Shape → Bool
is_sequence_of None = false
is_sequence_of (Some shape) = is_sequence_type shape

abbrev pub is_sequence : NamedElement → Bool
is_sequence element = is_sequence_of (option_map (λ r. r.now) element.shape)

-- The number of the key that an element is or holds: in a SEQUENCE the first private element.
abbrev pub key_by : Option NamedElement → List NamedElement → ℕ → ℕ
key_by None elements number = number
key_by (Some element) elements number =
    cond (is_sequence element) (unwrap_or (private_from number (drop number elements)) number) number

abbrev pub key_in : List NamedElement → ℕ → ℕ
key_in elements number = key_by (slice_get elements number) elements number

abbrev pub nowhere : FaultLocation
nowhere = record { element = None; container = None; level = None }

abbrev pub at_element : ℕ → FaultLocation
at_element number = record { element = Some number; container = None; level = None }

abbrev pub in_container : ℕ → Level → FaultLocation
in_container container level = record { element = None; container = Some container; level = Some level }

-- the container in which the elements stop matching the type, and what is due there
abbrev pub where_mismatch : Mismatch → FaultLocation
where_mismatch Nowhere = nowhere
where_mismatch OutermostMismatch = nowhere
where_mismatch (Unplaced container level) = in_container container level
where_mismatch (Missing container level) = in_container container level
where_mismatch (Stopped None) = nowhere
where_mismatch (Stopped (Some container)) = in_container container.0 container.1

abbrev pub is_outside_step : Step → Bool
is_outside_step Outside = true
is_outside_step Outermost = false
is_outside_step (Field name) = false
is_outside_step (Member number) = false
is_outside_step (Segment number) = false

abbrev pub is_outside_of : Option NamedElement → Bool
is_outside_of None = false
is_outside_of (Some element) = is_outside_step element.step

-- An element that has its place in the type, or in whose place something else is due.
abbrev pub where_placed : List NamedElement → ℕ → Mismatch → FaultLocation
where_placed elements number mismatch =
    cond (is_outside_of (slice_get elements number)) (record (where_mismatch mismatch) { element = Some number })
    (at_element number)

-- whether reading stops between the members of a container, so that the last element is whole
abbrev pub stops_in : Mismatch → ℕ → Bool
stops_in Nowhere number = false
stops_in OutermostMismatch number = false
stops_in (Unplaced container level) number = false
stops_in (Missing container level) number = false
stops_in (Stopped None) number = false
stops_in (Stopped (Some container)) number = container.0 == number

abbrev pub is_unfinished : Option NamedElement → ℕ → Mismatch → Bool
is_unfinished None number mismatch = false
is_unfinished (Some last) number mismatch = not (stops_in mismatch number) && is_none last.end

-- the number of the last element, where its length or its contents aren't whole
abbrev pub unfinished : List NamedElement → Mismatch → Option ℕ
unfinished elements mismatch =
    cond (is_unfinished (slice_get elements (length elements - 1)) (length elements - 1) mismatch)
    (Some (length elements - 1)) None

abbrev pub at_or_mismatch : Option ℕ → Mismatch → FaultLocation
at_or_mismatch None mismatch = where_mismatch mismatch
at_or_mismatch (Some number) mismatch = at_element number

abbrev pub placed_or_mismatch : List NamedElement → Option ℕ → Mismatch → FaultLocation
placed_or_mismatch elements None mismatch = where_mismatch mismatch
placed_or_mismatch elements (Some number) mismatch = where_placed elements number mismatch

-- What a fault of this place and reason is about: of Missing the container; of Truncated the last element, where it
-- isn't whole; of KeyLength the key; else the element at the place, or what is due in its place.
abbrev pub location_at : List NamedElement → Mismatch → ℕ → Reason → FaultLocation
location_at elements mismatch at reasons.Missing = where_mismatch mismatch
location_at elements mismatch at reasons.Truncated = at_or_mismatch (unfinished elements mismatch) mismatch
location_at elements mismatch at reasons.Trailing = nowhere
location_at elements mismatch at reasons.KeyLength =
    at_or_mismatch (option_map (key_in elements) (number_from 0 at elements)) mismatch
location_at elements mismatch at _ = placed_or_mismatch elements (number_from 0 at elements) mismatch

-- the step of an element that has its place
abbrev pub own_step : Step → List Step
own_step Outside = []
own_step Outermost = Outermost ∷ []
own_step (Field name) = Field name ∷ []
own_step (Member number) = Member number ∷ []
own_step (Segment number) = Segment number ∷ []

abbrev pub enclosed_of : Option NamedElement → ℕ → Option NamedElement
enclosed_of None number = None
enclosed_of (Some element) number =
    cond ((element.header.depth == 0) || nat_le number element.around) None (Some element)

-- the element of this number, where another one is around it
abbrev pub enclosed : List NamedElement → ℕ → Option NamedElement
enclosed elements number = enclosed_of (slice_get elements number) number

-- The steps lead from the outermost element to the one of this number, over so many elements: to the outermost one none
-- does; to another one those to the element around it, and its own.
abbrev pub Leads : ℕ → List NamedElement → ℕ → List Step → Type 0
Leads zero elements number steps = (enclosed elements number ≡ None) × (steps ≡ [])
Leads (suc count) elements number steps =
    (element : NamedElement) × (enclosed elements number ≡ Some element)
    × (before : List Step) × Leads count elements element.around before
    × (steps ≡ before ++ own_step element.step)

-- they are the path to an element
abbrev pub IsPath : List NamedElement → ℕ → List Step → Type 0
IsPath elements number steps = (count : ℕ) × Leads count elements number steps

-- the step to the field or member that is due in the place of an element of this tag
abbrev pub match_step : FieldMatch → List Step
match_step (matches.Field name shape fields) = Field name ∷ []
match_step (matches.Wrong name shape) = Field name ∷ []
match_step matches.Extra = []

abbrev pub due_step : Level → Tag → List Step
due_step (levels.Fields fields) tag = match_step (match_in fields.now tag)
due_step (levels.Members shape least number) tag = Member number ∷ []
due_step (levels.Segments number) tag = Segment number ∷ []

abbrev pub due_steps : Option Level → Option NamedElement → List Step
due_steps None element = []
due_steps (Some level) None = []
due_steps (Some level) (Some element) = due_step level element.header.tag

-- The steps to what a fault is about: to the element; to the field that is due in its place; to the container.
abbrev pub IsPathBy : List NamedElement → Option ℕ → Option ℕ → Option Level → List Step → Type 0
IsPathBy elements (Some container) (Some number) level steps =
    (before : List Step) × IsPath elements container before
    × (steps ≡ before ++ due_steps level (slice_get elements number))
IsPathBy elements (Some container) None level steps = IsPath elements container steps
IsPathBy elements None (Some number) level steps = IsPath elements number steps
IsPathBy elements None None level steps = steps ≡ []

abbrev pub IsPathTo : List NamedElement → FaultLocation → List Step → Type 0
IsPathTo elements location steps = IsPathBy elements location.container location.element location.level steps

-- the steps added to those before
abbrev pub AddsPath : List NamedElement → ℕ → List Step → List Step → Type 0
AddsPath elements number old new = (steps : List Step) × (new ≡ old ++ steps) × IsPath elements number steps

abbrev pub AddsPathTo : List NamedElement → FaultLocation → List Step → List Step → Type 0
AddsPathTo elements location old new = (steps : List Step) × (new ≡ old ++ steps) × IsPathTo elements location steps
