-- What one step of an outline owes, between two of which a reader is at a point.
use Rattle.std.specs.Prelude.{List, None, Option, [], false, length, ℕ, ◌*◌, ◌+◌, ◌-◌, ◌∷◌, ◌≡◌, ◌≤◌}
use Rattle.tlv_core.specs.declared.fault.ReadError.{ReadError}
use Rattle.tlv_core.specs.declared.fault.ReadError.TheVariants as errors
use Rattle.x690.specs.Points.{Enclosing}
use Rattle.ber_pull.specs.Hears.{TakesFrom}
use Rattle.ber_pull.specs.Standing.{Standing, enclosing_of, is_ended, is_over}
use Rattle.ber_pull.specs.declared.state.Container.{Container}
use Rattle.ber_outline.specs.Outlines.{Happens, Position, StopsWith}
use Rattle.ber_outline.specs.declared.event.Event.{Event}
use Rattle.ber_outline.specs.declared.event.Event.TheVariants.{Begin, End, Primitive}
use Rattle.ber_outline.specs.declared.event.ElementHeader.{ElementHeader}

-- what encloses the members of each open container
abbrev pub insides : List Container → List Enclosing
insides [] = []
insides (c ∷ cs) = enclosing_of (c ∷ cs) ∷ insides cs

-- the point where a reader stands, these octets being left
abbrev pub position : Standing → List ℕ → Position
position s left = record { containers = insides s.containers; place = s.taken; octets = left }

-- none of the open containers has ended
abbrev pub AllOpen : List Container → Type 0
AllOpen [] = Unit {0}
AllOpen (c ∷ cs) = (is_ended c ≡ false) × AllOpen cs

-- It hasn't failed, no identifier is given, and these octets of the document are left.
pub record Reading (document : List ℕ) (s : Standing) (left : List ℕ) : Type 0 where
  pub fine : s.error ≡ None
  pub none_given : s.given ≡ None
  pub open_all : AllOpen s.containers
  pub takes : TakesFrom 0 document s.taken left

-- More of the document is to come, or its first octet.
pub record Ready (document : List ℕ) (s : Standing) (left : List ℕ) : Type 0 where
  pub reading : Reading document s left
  pub live : is_over s ≡ false

-- how many containers are open after an event
abbrev pub open_after : Event → ℕ → ℕ
open_after (Primitive header begin end) depth = depth
open_after (Begin header begin) depth = depth + 1
open_after (End at) depth = depth - 1

-- The event happened between the two. Octets were taken, or a container ended.
pub record Leads (document : List ℕ) (event : Event) (s : Standing) (left : List ℕ) (s' : Standing) (left' : List ℕ)
    : Type 0 where
  pub happens : Happens s.limits event (position s left) (position s' left')
  pub reading : Reading document s' left'
  pub same_limits : s'.limits ≡ s.limits
  pub depth : length s'.containers ≡ open_after event (length s.containers)
  pub fewer : 1 + 2 * s.taken + length s'.containers ≤ 2 * s'.taken + length s.containers

-- What an error says: a fault is that of what is at the point, and none comes from the source.
abbrev pub StopsAt : ReadError → Option ElementHeader → Standing → List ℕ → Type 0
StopsAt (errors.Fault fault) element s left = StopsWith s.limits fault element (position s left)
StopsAt (errors.Read at) element s left = ⊥
StopsAt errors.Memory element s left = Unit {0}
