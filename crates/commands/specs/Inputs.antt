-- What taking the octets of an input does. They are known before the call and after it, where those of the source are
-- known.
use Rattle.std.specs.Prelude.{◌≡◌, ◌++◌, ◌<◌, ◌≤◌, ℕ, Bool, List, Option, false, length, true}
use Rattle.std.specs.Io.KnownBytes.{Consumes, IsAtEnd, Keeps}
use Rattle.tlv_core.specs.declared.fault.ReadError.{ReadError}
use Rattle.tlv_core.specs.declared.fault.ReadError.TheVariants.{Fault, Memory, Read}

-- The first octets were taken: all of them, or `most`.
pub record TakesFirst (most : ℕ) (before after : Option (List ℕ)) (octets : List ℕ) : Type 0 where
  pub takes : Consumes before after octets
  pub few : length octets ≤ most
  pub all : length octets < most → IsAtEnd after

-- Fewer than `most` were taken, and then a read failed; or memory ran out after some.
abbrev pub StopsTaking : ℕ → ReadError → Option (List ℕ) → Option (List ℕ) → Type 0
StopsTaking most (Fault found) before after = ⊥
StopsTaking most (Read at) before after =
    (octets : List ℕ) × Consumes before after octets × (at ≡ length octets) × (at < most)
StopsTaking most Memory before after = (octets : List ℕ) × Consumes before after octets × (length octets ≤ most)

-- Some octets more were taken, `most` at most, and none only at the end.
pub record Takes (most count : ℕ) (before after : Option (List ℕ)) (old new : List ℕ) : Type 0 where
  pub octets : List ℕ
  pub takes : Consumes before after octets
  pub grown : new ≡ old ++ octets
  pub counted : count ≡ length octets
  pub few : count ≤ most
  pub all : count ≡ 0 → IsAtEnd after

-- None more were taken, and a read failed; or memory ran out after some.
abbrev pub StopsAfter : ℕ → ReadError → Option (List ℕ) → Option (List ℕ) → List ℕ → Type 0
StopsAfter most (Fault found) before after old = ⊥
StopsAfter most (Read at) before after old = (at ≡ length old) × Keeps before after
StopsAfter most Memory before after old =
    (octets : List ℕ) × Consumes before after octets × (length octets ≤ most)

-- Octets were taken behind these, some or none;
pub record TakesMore (before after : Option (List ℕ)) (old new : List ℕ) : Type 0 where
  pub octets : List ℕ
  pub takes : Consumes before after octets
  pub grown : new ≡ old ++ octets

-- some, or all that there were.
abbrev pub TakesSome : Bool → Option (List ℕ) → Option (List ℕ) → List ℕ → List ℕ → Type 0
TakesSome true before after old new = TakesMore before after old new × (length old < length new)
TakesSome false before after old new = TakesMore before after old new × IsAtEnd after
