-- What clauses see of a sink.
use Rattle.std.specs.Prelude.{◌≡◌, ◌+◌, ◌-◌, ◌≤◌, ℕ, List, length, take, Option, Bool, true, false, Result, IfErr, OnOk}
use Rattle.std.specs.Io.KnownBytes.{Appends}
use Rattle.tlv_core.specs.declared.sink.Sink.{Sink}
use Rattle.tlv_core.specs.declared.sink.WriteError.{WriteError}
use Rattle.tlv_core.specs.declared.target.Target.{Ghosts}

-- how many octets are out
abbrev pub count : {W : Type 0} {t : Ghosts W} → Sink W t → ℕ
count sink = sink.written

-- its target has failed
abbrev pub is_broken : {W : Type 0} {t : Ghosts W} → Sink W t → Bool
is_broken {W} {t} sink = t.has_failed sink.target.now

abbrev pub target_of : {W : Type 0} {t : Ghosts W} → Sink W t → W
target_of sink = sink.target.now

-- which target is lent to it
abbrev pub target_name : {W : Type 0} {t : Ghosts W} → Sink W t → ℕ
target_name sink = sink.target.ghost_name

-- the octets that its target contains
abbrev pub held : {W : Type 0} {t : Ghosts W} → Sink W t → Option (List ℕ)
held {W} {t} sink = t.contents sink.target.now

-- the same target is lent to both
abbrev pub SameWriter : {W : Type 0} {t : Ghosts W} → Sink W t → Sink W t → Type 0
SameWriter old new = target_name new ≡ target_name old

-- Of the octets that a call was handed the first are out, as many as the count rose by: all where it succeeded.
-- An error tells the count. A sink that had failed is as it was.
pub record Puts {W : Type 0} {t : Ghosts W} (octets : List ℕ) (old new : Sink W t)
    (result : Result (Unit {0}) WriteError) : Type 0 where
  pub same_writer : SameWriter old new
  pub no_less : count old ≤ count new
  pub no_more : count new ≤ count old + length octets
  pub out : Appends (held old) (held new) (take (count new - count old) octets)
  pub all : OnOk result ((count new ≡ count old + length octets) × (is_broken new ≡ false))
  pub failed : IfErr result (λ error. (error.written ≡ count new) × (is_broken new ≡ true))
  pub repeats : is_broken old ≡ true → new ≡ old
  pub was_fine : OnOk result (is_broken old ≡ false)
