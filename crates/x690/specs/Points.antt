-- Where an element stands, and faults there.
use Rattle.std.specs.Prelude.{Bool, None, Option, Some, false, nat_le, nat_lt, true, ℕ, ◌+◌, ◌==◌}
use Rattle.tlv_core.specs.declared.fault.Fault.{Fault}
use Rattle.tlv_core.specs.declared.reason.Reason.{Reason}

-- a fault at a place, with nothing inside
abbrev pub fault : ℕ → Reason → Fault
fault place why = record { at = place; why = why; inside = None }

-- The innermost container: none, one of definite length that ends at a place, one of indefinite
-- length that ends with `00 00`.
pub data Innermost : Type 0 where
  NoContainer : Innermost
  EndsAt : ℕ → Innermost
  EndsWithZeros : Innermost

-- What encloses an element: the end of the nearest container of definite length, if there is one, the innermost
-- container, and how many are open.
pub record Enclosing : Type 0 where
  pub nearest_end : Option ℕ
  pub innermost : Innermost
  pub open_containers : ℕ

-- what encloses a document
abbrev pub outermost : Enclosing
outermost = record { nearest_end = None; innermost = NoContainer; open_containers = 0 }

-- no octet may stand at the place: it isn't before the end
abbrev pub at_end : Option ℕ → ℕ → Bool
at_end None place = false
at_end (Some end) place = nat_le end place

-- contents may not end at the place: it is after the end
abbrev pub past_end : Option ℕ → ℕ → Bool
past_end None place = false
past_end (Some end) place = nat_lt end place

-- end-of-contents octets may stand here
abbrev pub ends_with_zeros : Innermost → Bool
ends_with_zeros NoContainer = false
ends_with_zeros (EndsAt end) = false
ends_with_zeros EndsWithZeros = true

-- a container of definite length ends here
abbrev pub stands_at_end : Innermost → ℕ → Bool
stands_at_end NoContainer place = false
stands_at_end (EndsAt end) place = end == place
stands_at_end EndsWithZeros place = false

-- What length octets give (8.1.3).
pub data LengthForm : Type 0 where
  DefiniteLength : ℕ → LengthForm
  IndefiniteLength : LengthForm

-- what encloses the members of a container whose contents begin here
abbrev pub entered : Enclosing → ℕ → LengthForm → Enclosing
entered enclosing here (DefiniteLength number) = record {
  nearest_end = Some (here + number);
  innermost = EndsAt (here + number);
  open_containers = enclosing.open_containers + 1;
}
entered enclosing here IndefiniteLength = record {
  nearest_end = enclosing.nearest_end;
  innermost = EndsWithZeros;
  open_containers = enclosing.open_containers + 1;
}
