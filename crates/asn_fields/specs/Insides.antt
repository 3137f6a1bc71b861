-- Where a reader stands while it reads the fields of a container.
use Rattle.std.specs.Prelude.{IsSome, None, Option, Some, false, length, ◌+◌, ◌∷◌, ◌≡◌}
use Rattle.tlv_core.specs.Identifier.{identifier}
use Rattle.x690.specs.Points.{Enclosing}
use Rattle.x690.specs.ReadHeaders.{ContainerEnds, ElementStands, Next}
use Rattle.ber_pull.specs.Standing.{IsAtEnd, IsGiven, Standing, enclosing, is_ended}
use Rattle.ber_pull.specs.declared.state.Container.{Container}
use Rattle.ber_pull.specs.declared.state.Given.{Given}

-- the identifier that is given where this stands next
abbrev pub given_by : Next → Option Given
given_by (ContainerEnds place) = None
given_by (ElementStands place tag constructed) = Some (record { at = place; tag = tag; constructed = constructed })

-- Inside a container that was opened where `outer` stood, at the point `inside`; no identifier is given.
pub record Within (outer : Standing) (inside : Enclosing) (now : Standing) : Type 0 where
  pub container : Container
  pub is : now ≡ record outer { taken = now.taken; given = None; containers = container ∷ outer.containers }
  pub point : enclosing now ≡ inside
  pub open_still : is_ended container ≡ false

-- the identifier of the element that stands next ends here, and the element may stand there
abbrev pub BeginsBefore : Standing → Next → Type 0
BeginsBefore now (ContainerEnds place) = Unit {0}
BeginsBefore now (ElementStands place tag constructed) =
    IsGiven tag now × (place + length (identifier tag constructed) ≡ now.taken)

-- The same, with `next` standing next.
pub record Inside (outer : Standing) (inside : Enclosing) (now : Standing) (next : Next) : Type 0 where
  pub container : Container
  pub is : now ≡ record outer { taken = now.taken; given = given_by next; containers = container ∷ outer.containers }
  pub point : enclosing now ≡ inside
  -- with an element standing next the container isn't ended
  pub open_still : IsSome (given_by next) → is_ended container ≡ false
  pub ended : given_by next ≡ None → IsAtEnd now
  pub begins : BeginsBefore now next
