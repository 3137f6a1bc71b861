-- What clauses see of a pull reader.
use Rattle.std.specs.Prelude.{Bool, Err, List, MatchResult, None, IfErr, Ok, Option, Result, Some, false, true, ℕ, ◌≡◌, ◌≤◌}
use Rattle.tlv_core.specs.declared.fault.ReadError.{ReadError}
use Rattle.tlv_core.specs.declared.fault.ReadError.TheVariants as errors
use Rattle.tlv_core.specs.declared.source.Source.{Ghosts}
use Rattle.x690.specs.ReadHeaders.{LengthForm}
use Rattle.x690.specs.Reading.{Reading}
use Rattle.x690.specs.Reads.{Heard}
use Rattle.ber_pull.specs.Hears.{Hears}
use Rattle.ber_pull.specs.Standing.{Standing, failed_with, failure, moved, opening, used}
use Rattle.ber_pull.specs.declared.pull.Pull.{Pull}
use Rattle.ber_pull.specs.declared.state.Halted.{Halted}

-- where it stands
abbrev pub standing : {R : Type 0} {s : Ghosts R} → Pull R s → Standing
standing p = p.state

-- the octets that its source still tells
abbrev pub told : {R : Type 0} {s : Ghosts R} → Pull R s → Option (List ℕ)
told {R} {s} p = s.remaining p.src.now

-- its source has failed
abbrev pub source_failed : {R : Type 0} {s : Ghosts R} → Pull R s → Bool
source_failed {R} {s} p = s.has_failed p.src.now

-- the source as it stands
abbrev pub source : {R : Type 0} {s : Ghosts R} → Pull R s → R
source p = p.src.now

-- it borrows the same source still, in which what no read changes is as it was
abbrev pub SameSource : {R : Type 0} {s : Ghosts R} → Pull R s → Pull R s → Type 0
SameSource {R} {s} old new = (new.src.ghost_name ≡ old.src.ghost_name) × (s.frame new.src.now ≡ s.frame old.src.now)

-- nothing was taken, and it stands as it did
abbrev pub Unmoved : {R : Type 0} {s : Ghosts R} → Pull R s → Pull R s → Type 0
Unmoved old new = (new.state ≡ old.state) × (new.src.now ≡ old.src.now)

-- one that failed answers the same error again, and takes nothing
abbrev pub Repeats : {R : Type 0} {s : Ghosts R} {A : Type 0} → Pull R s → Pull R s → Result A ReadError → Type 0
Repeats old new result = (e : ReadError) → old.state.error ≡ Some e → (result ≡ Err e) × Unmoved old new

-- what a call inside the reader answered: its error is the one that is kept
abbrev pub answered : {R : Type 0} {s : Ghosts R} {A : Type 0} → Pull R s → Result A Halted → Result A ReadError
answered new (Ok x) = Ok x
answered new (Err halted) = Err (failure new.state)

-- an error is kept, and `Ok` leaves none
abbrev pub Keeps : {R : Type 0} {s : Ghosts R} {A : Type 0} → Pull R s → Result A ReadError → Type 0
Keeps new result =
    MatchResult result (λ _. (new.state.error ≡ None) × (source_failed new ≡ false)) (λ e. new.state.error ≡ Some e)

-- a failed read at this place is answered where the source failed, and nowhere else
abbrev pub IsReadFailure : Bool → ℕ → ReadError → Type 0
IsReadFailure failed k (errors.Read at) = (failed ≡ true) × (at ≡ k)
IsReadFailure failed k (errors.Fault f) = failed ≡ false
IsReadFailure failed k errors.Memory = failed ≡ false

-- any error but want of memory
abbrev pub IsNotMemory : ReadError → Type 0
IsNotMemory (errors.Fault f) = Unit {0}
IsNotMemory (errors.Read at) = Unit {0}
IsNotMemory errors.Memory = ⊥

-- no memory is asked for: one that hadn't failed doesn't answer that it ran out
abbrev pub AsksNoMemory : {R : Type 0} {s : Ghosts R} {A : Type 0} → Pull R s → Result A ReadError → Type 0
AsksNoMemory old result = old.state.error ≡ None → IfErr result IsNotMemory

-- of one that hadn't failed: `Read` is answered where the source failed in this call, at the octet that was
-- needed next, and nowhere else
abbrev pub ReadsFail : {R : Type 0} {s : Ghosts R} {A : Type 0} → Pull R s → Pull R s → Result A ReadError → Type 0
ReadsFail old new result = old.state.error ≡ None → IfErr result (IsReadFailure (source_failed new) new.state.taken)

-- the limits are as they were, and no octet is given back
pub record Onward {R : Type 0} {s : Ghosts R} (old new : Pull R s) : Type 0 where
  pub same_limits : new.state.limits ≡ old.state.limits
  pub forward : old.state.taken ≤ new.state.taken

-- The frame of a reader: what its call leaves as it was, whatever was read, and how it stands after an error.
pub record Frame {R : Type 0} {s : Ghosts R} {A : Type 0} (old new : Pull R s) (result : Result A ReadError) : Type 0
  where
    pub same_source : SameSource old new
    pub keeps : Keeps new result
    pub read : ReadsFail old new result
    pub onward : Onward old new

-- what the call answered is what this reading gives for the octets told, and what it took are the first of them
abbrev pub Answers : {R : Type 0} {s : Ghosts R} {A : Type 0} → Pull R s → Pull R s → Reading A → Heard A → Type 0
Answers old new p h = Hears p old.state.taken (told old) h new.state.taken (told new)

-- octets were taken, and on an error it has failed with it; nothing else of the standing changed
abbrev pub Moves : {R : Type 0} {s : Ghosts R} {A : Type 0} → Pull R s → Pull R s → Result A ReadError → Type 0
Moves old new result =
    MatchResult result (λ _. new.state ≡ moved new.state.taken old.state)
    (λ e. new.state ≡ failed_with e (moved new.state.taken old.state))

-- of one that hadn't failed: on an error it has failed with it, and but for octets that were taken all is as it was,
-- what is given and what is open
abbrev pub FailsThere : {R : Type 0} {s : Ghosts R} {A : Type 0} → Pull R s → Pull R s → Result A ReadError → Type 0
FailsThere old new result =
    old.state.error ≡ None → IfErr result (λ e. new.state ≡ failed_with e (moved new.state.taken old.state))

-- the element that was given is read
abbrev pub Uses : {R : Type 0} {s : Ghosts R} → Pull R s → Pull R s → Type 0
Uses old new = new.state ≡ used new.state.taken old.state

-- the container that was given is open, with some length
abbrev pub Opens : {R : Type 0} {s : Ghosts R} → Pull R s → Pull R s → Type 0
Opens old new = (form : LengthForm) × (new.state ≡ opening form (used new.state.taken old.state))
