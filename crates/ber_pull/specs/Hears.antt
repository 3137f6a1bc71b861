-- What a call answers over a source that may tell its octets, against a plain reading.
use Rattle.std.specs.Prelude.{Bool, Err, List, None, Ok, Option, Result, Some, [], length, ℕ, ◌++◌, ◌+◌, ◌≡◌}
use Rattle.tlv_core.specs.declared.fault.ReadError.{ReadError}
use Rattle.tlv_core.specs.declared.fault.ReadError.TheVariants as errors
use Rattle.tlv_core.specs.Identifier.{Tag}
use Rattle.x690.specs.ReadHeaders.{ContainerEnds, ElementStands, Next}
use Rattle.x690.specs.Reading.{Reading, Took, run}
use Rattle.x690.specs.Reads.{Heard, NoMemory, ReadFailed, Reads, Refused, Said}

abbrev pub heard_error : {A : Type 0} → ReadError → Heard A
heard_error (errors.Fault f) = Refused f
heard_error (errors.Read at) = ReadFailed at
heard_error errors.Memory = NoMemory

-- what a result says, its value being seen as `f` sees it
abbrev pub heard : {T A : Type 0} → (T → A) → Result T ReadError → Heard A
heard f (Ok x) = Said (f x)
heard f (Err e) = heard_error e

-- what `next_tag` answers, at a place
abbrev pub next_at : ℕ → Option (Tag × Bool) → Next
next_at p None = ContainerEnds p
next_at p (Some t) = ElementStands p t.0 t.1

-- From place `k`, with the octets `s` that are told, to place `k'` with `s'`: these octets were
-- taken, and they are counted.
abbrev pub TakesFrom : ℕ → List ℕ → ℕ → List ℕ → Type 0
TakesFrom k s k' s' = (octets : List ℕ) × (s ≡ octets ++ s') × (k' ≡ k + length octets)

-- Of a source that doesn't tell its octets: where a value was answered, some octets were taken, and it is what
-- the reading gives for them.
abbrev pub Gives : {A : Type 0} → Reading A → ℕ → Heard A → ℕ → Type 0
Gives p k (Said value) k' = (octets : List ℕ) × (k' ≡ k + length octets) × (run p k octets ≡ Took value k' [])
Gives p k (Refused f) k' = Unit {0}
Gives p k (ReadFailed at) k' = Unit {0}
Gives p k NoMemory k' = Unit {0}

-- From place `k` to place `k'`: what was taken is what the source told before and no longer tells, and what was
-- answered is what the reading gives for the octets told.
unfoldable pub Hears : {A : Type 0} → Reading A → ℕ → Option (List ℕ) → Heard A → ℕ → Option (List ℕ) → Type 0
Hears p k None h k' t = Gives p k h k'
Hears p k (Some s) h k' None = ⊥
Hears p k (Some s) h k' (Some s') = TakesFrom k s k' s' × Reads p k s h k' s'

-- What is answered from here on, by what is still to be read, answers the whole.
pub record Continues {A : Type 0} (p : Reading A) (k : ℕ) (s : Option (List ℕ)) (q : Reading A) (j : ℕ)
    (t : Option (List ℕ)) : Type 0 where
  pub rest : (h : Heard A) (i : ℕ) (u : Option (List ℕ)) → Hears q j t h i u → Hears p k s h i u
