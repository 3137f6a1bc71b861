-- What a reader written in Rust answers, against a plain reading.
use Rattle.std.specs.Prelude.{List, length, ℕ, ◌++◌, ◌+◌, ◌∷◌, ◌≡◌}
use Rattle.tlv_core.specs.declared.fault.Fault.{Fault}
use Rattle.tlv_core.specs.declared.reason.Reason.TheVariants.{Truncated}
use Rattle.x690.specs.Points.{fault}
use Rattle.x690.specs.Reading.{Halted, Reading, Took, run}

-- What was heard from a call: a value, a fault, a source that failed at a place, want of memory.
pub data Heard (A : Type 0) : Type 0 where
  Said : A → Heard A
  Refused : Fault → Heard A
  ReadFailed : ℕ → Heard A
  NoMemory : Heard A

-- Each of these octets is asked for by the reading: those before it are too few for any answer.
abbrev pub Needs : {A : Type 0} → Reading A → ℕ → List ℕ → Type 0
Needs reading place octets =
    (some : List ℕ) (octet : ℕ) (more : List ℕ) → octets ≡ some ++ (octet ∷ more)
    → run reading place some ≡ Halted (fault (place + length some) Truncated)

-- What was heard of a call that began at a place, before these octets, and ended at a place, before those: what the
-- plain reading gives; or the source failed, and the octets up to there are too few for any answer; or memory ran out,
-- and each octet that was taken was asked for.
unfoldable pub Reads : {A : Type 0} → Reading A → ℕ → List ℕ → Heard A → ℕ → List ℕ → Type 0
Reads reading place octets (Said value) place' octets' = run reading place octets ≡ Took value place' octets'
Reads reading place octets (Refused why) place' octets' = run reading place octets ≡ Halted why
Reads reading place octets (ReadFailed at) place' octets' =
    (taken : List ℕ)
    × (octets ≡ taken ++ octets')
    × (at ≡ place + length taken)
    × (run reading place taken ≡ Halted (fault at Truncated))
Reads reading place octets NoMemory place' octets' =
    (taken : List ℕ) × (octets ≡ taken ++ octets') × Needs reading place taken

-- the same error, of calls that answer different types
abbrev pub SameError : {A B : Type 0} → Heard A → Heard B → Type 0
SameError (Said value) other = ⊥
SameError (Refused why) (Said value) = ⊥
SameError (Refused why) (Refused other) = why ≡ other
SameError (Refused why) (ReadFailed at) = ⊥
SameError (Refused why) NoMemory = ⊥
SameError (ReadFailed at) (Said value) = ⊥
SameError (ReadFailed at) (Refused why) = ⊥
SameError (ReadFailed at) (ReadFailed other) = at ≡ other
SameError (ReadFailed at) NoMemory = ⊥
SameError NoMemory (Said value) = ⊥
SameError NoMemory (Refused why) = ⊥
SameError NoMemory (ReadFailed at) = ⊥
SameError NoMemory NoMemory = Unit {0}
