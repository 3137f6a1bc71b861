-- What a pull reader stands at.
use Rattle.std.specs.Prelude.{Bool, List, None, Option, Some, [], cond, false, length, min, nat_le, nat_lt, not, true, ℕ, ◌+◌, ◌<◌, ◌&&◌, ◌||◌, ◌∷◌, ◌≤◌, IsSome, ◌≡◌, ◌↔◌}
use Rattle.tlv_core.specs.Identifier.{IsTag, Tag}
use Rattle.tlv_core.specs.Limits.{Limits}
use Rattle.tlv_core.specs.declared.fault.Fault.{Fault}
use Rattle.tlv_core.specs.declared.fault.ReadError.{ReadError}
use Rattle.tlv_core.specs.declared.fault.ReadError.TheVariants as errors
use Rattle.tlv_core.specs.declared.reason.Reason.{Reason}
use Rattle.tlv_core.specs.declared.reason.Reason.TheVariants.{Inner, PastEnd, TooLong}
use Rattle.x690.specs.Points.{Enclosing, EndsAt, EndsWithZeros, Innermost, NoContainer, past_end, stands_at_end}
use Rattle.x690.specs.ReadHeaders.{DefiniteLength, IndefiniteLength, LengthForm}
use Rattle.ber_pull.specs.declared.state.Container.{Container}
use Rattle.ber_pull.specs.declared.state.Container.TheVariants.{Definite, Ended, Indefinite}
use Rattle.ber_pull.specs.declared.state.Given.{Given}

pub record Standing : Type 0 where
  pub limits : Limits
  -- how many octets are taken
  pub taken : ℕ
  -- the identifier that is given and not used yet: its place, its tag, and whether the form is constructed
  pub given : Option Given
  -- the open containers, the innermost first
  pub containers : List Container
  -- the error, once it failed
  pub error : Option ReadError

-- An element of this tag may stand here: the tag is one, its depth is within the limit, and the limit of octets is one.
pub record IsGiven (tag : Tag) (s : Standing) : Type 0 where
  pub is_tag : IsTag tag
  pub depth_fits : length s.containers < s.limits.depth
  pub octets_fit : s.limits.octets ≤ 2147483647

-- what is inside a fault is there exactly where its reason is Inner
abbrev pub TellsInside : Standing → Type 0
TellsInside s = (found : Fault) → s.error ≡ Some (errors.Fault found) → (IsSome found.inside ↔ (found.why ≡ Inner))

-- at the start, with no container open
abbrev pub started : Limits → Standing
started limits = record { limits = limits; taken = 0; given = None; containers = []; error = None }

-- the place of the identifier that is given and not used yet, or else of the next octet
abbrev pub place : Standing → ℕ
place s = elim s.given [ Some g ↦ g.at | None ↦ s.taken ]

-- the element whose identifier is given is primitive
abbrev pub gives_primitive : Standing → Bool
gives_primitive s = elim s.given [ Some g ↦ not g.constructed | None ↦ false ]

abbrev pub first_of : List Container → Option Container
first_of [] = None
first_of (c ∷ cs) = Some c

-- the end of the nearest container of definite length, of the innermost container
abbrev pub nearest_end_in : Option Container → Option ℕ
nearest_end_in None = None
nearest_end_in (Some (Definite end)) = Some end
nearest_end_in (Some (Indefinite around)) = around
nearest_end_in (Some (Ended around)) = around

abbrev pub innermost_in : Option Container → Innermost
innermost_in None = NoContainer
innermost_in (Some (Definite end)) = EndsAt end
innermost_in (Some (Indefinite around)) = EndsWithZeros
innermost_in (Some (Ended around)) = EndsWithZeros

-- the point inside these containers, the place apart
abbrev pub enclosing_of : List Container → Enclosing
enclosing_of cs = record {
  nearest_end = nearest_end_in (first_of cs);
  innermost = innermost_in (first_of cs);
  open_containers = length cs;
}

abbrev pub enclosing : Standing → Enclosing
enclosing s = enclosing_of s.containers

-- its end-of-contents octets are taken
abbrev pub is_ended : Container → Bool
is_ended (Definite end) = false
is_ended (Indefinite around) = false
is_ended (Ended around) = true

-- Nothing more is to come here, and no octet is needed to know it: the end-of-contents octets of the innermost
-- container are taken, or no container is open and the outermost element is complete.
abbrev pub is_over_in : ℕ → Option Container → Bool
is_over_in taken None = nat_lt 0 taken
is_over_in taken (Some c) = is_ended c

abbrev pub is_over : Standing → Bool
is_over s = is_over_in s.taken (first_of s.containers)

-- no element begins here: its container is over, or this is its end
abbrev pub is_done : Standing → Bool
is_done s = is_over s || stands_at_end (enclosing s).innermost s.taken

-- Nothing is left here, and no octet is needed to know it.
abbrev pub IsAtEnd : Standing → Type 0
IsAtEnd s = (s.given ≡ None) × (is_done s ≡ true)

-- the first place that no octet may be taken from: the nearest end, or the limit where it comes first
abbrev pub bound_of : ℕ → Option ℕ → ℕ
bound_of limit None = limit
bound_of limit (Some end) = min end limit

-- so many octets more stay within the nearest container of definite length and within the limit
abbrev pub has_room : Standing → ℕ → Bool
has_room s n = not (past_end (enclosing s).nearest_end (s.taken + n)) && nat_le (s.taken + n) s.limits.octets

-- what is wrong where they don't
abbrev pub no_room : Standing → ℕ → Reason
no_room s n = cond (past_end (enclosing s).nearest_end (s.taken + n)) PastEnd TooLong

-- the octets up to this place are taken
abbrev pub moved : ℕ → Standing → Standing
moved taken s = record s { taken = taken }

-- it has failed
abbrev pub failed_with : ReadError → Standing → Standing
failed_with e s = record s { error = Some e }

-- the error that it has failed with
abbrev pub failure : Standing → ReadError
failure s = elim s.error [ Some e ↦ e | None ↦ errors.Memory ]

-- an identifier is given
abbrev pub giving : ℕ → Tag → Bool → Standing → Standing
giving at tag constructed s = record s { given = Some (record { at = at; tag = tag; constructed = constructed }) }

-- the element that was given is read, up to this place
abbrev pub used : ℕ → Standing → Standing
used taken s = record s { taken = taken; given = None }

-- a container with this length, whose contents begin here
abbrev pub container_of : LengthForm → Standing → Container
container_of (DefiniteLength n) s = Definite (s.taken + n)
container_of IndefiniteLength s = Indefinite (nearest_end_in (first_of s.containers))

-- a container is open
abbrev pub with_container : Container → Standing → Standing
with_container c s = record s { containers = c ∷ s.containers }

-- a container is open, with this length
abbrev pub opening : LengthForm → Standing → Standing
opening form s = with_container (container_of form s) s

abbrev pub without_first : List Container → List Container
without_first [] = []
without_first (c ∷ cs) = cs

-- the end-of-contents octets of the innermost container are taken
abbrev pub with_ended : Option Container → List Container → List Container
with_ended None cs = cs
with_ended (Some (Definite end)) cs = cs
with_ended (Some (Indefinite around)) cs = Ended around ∷ without_first cs
with_ended (Some (Ended around)) cs = cs

-- the end of the innermost container is met
abbrev pub ending : Standing → Standing
ending s = record s { containers = with_ended (first_of s.containers) s.containers }

-- the innermost container is no longer open
abbrev pub closing : Standing → Standing
closing s = record s { containers = without_first s.containers }

-- where `next_tag` leaves a reader that had no identifier given
abbrev pub after_next : ℕ → Option (Tag × Bool) → Standing → Standing
after_next taken None s = ending (moved taken s)
after_next taken (Some t) s = giving s.taken t.0 t.1 (moved taken s)

-- the containers that are open now, no identifier being given, up to the place that is taken now; all else as it was
abbrev pub among : Standing → Standing → Standing
among now s = record s { taken = now.taken; given = None; containers = now.containers }
