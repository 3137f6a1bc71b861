-- What can be said of a new file, and of making one.
use Rattle.std.specs.Prelude.{◌≡◌, ◌⊎◌, Bool, List, None, Option, Some, [], codes, cond, true, ℕ}
use Rattle.pk_documents.specs.KindRows.{has_plain_keys}
use Rattle.pk_documents.specs.declared.kind.Kind.{Kind}
use Rattle.commands.specs.Endings.{is_done}
use Rattle.commands.specs.declared.new_file.Stage.{Stage}
use Rattle.commands.specs.declared.new_file.Stage.TheVariants.{Beside, Gone, InPlace}
use Rattle.commands.specs.declared.new_file.Unmade.{Unmade}
use Rattle.commands.specs.declared.new_file.Unmade.TheVariants.{Denied, Full, Irregular, Memory, NoFolder, NotFolder, Other, ReadOnly, TooLong}
use Rattle.commands.specs.declared.outcome.Outcome.{Outcome}
use Rattle.commands.specs.declared.task.Task.{Task}

-- Of a new file: the name whose place it is to have, whether its owner alone may read it until then, where it is, and
-- what is in it once it has its place, where that is known.
pub record Made : Type 0 where
  pub name : List ℕ
  pub is_private : Bool
  pub stage : Stage
  pub octets : Option (List ℕ)

-- what is known is no octets
abbrev pub IsEmpty : Option (List ℕ) → Type 0
IsEmpty None = Unit {0}
IsEmpty (Some octets) = octets ≡ []

-- It is to have the place of this name, and hasn't.
abbrev pub IsNew : List ℕ → Bool → Made → Type 0
IsNew name is_private made = (made.name ≡ name) × (made.is_private ≡ is_private) × (made.stage ≡ Beside)

-- the same file with these octets, in its place
abbrev pub placed_with : Made → Option (List ℕ) → Made
placed_with made octets =
    record { name = made.name; is_private = made.is_private; stage = InPlace; octets = octets }

abbrev pub removed : Made → Made
removed made = record { name = made.name; is_private = made.is_private; stage = Gone; octets = made.octets }

-- private keys may stand in a document as they are: where its kind isn't told, too
abbrev pub may_hold_keys : Option Kind → Bool
may_hold_keys None = true
may_hold_keys (Some kind) = has_plain_keys kind

-- It has its place where all that was due is in it, and otherwise it is gone; of a kind with private keys
-- its owner alone may read it.
abbrev pub IsMade : List ℕ → Task → Outcome → Made → Type 0
IsMade name task outcome made =
    (made.name ≡ name)
    × (made.is_private ≡ may_hold_keys task.kind)
    × (made.stage ≡ cond (is_done outcome) InPlace Gone)

-- The task is answered over what was empty: what it contained and contains, whether it has failed, and whether it is
-- flushed. Where all that was due is out, that is what is in the file.
abbrev pub WroteMade : (Option (List ℕ) → Option (List ℕ) → Bool → Bool → Type 0) → Outcome → Made → Type 0
WroteMade Answers outcome made =
    (old : Option (List ℕ))
    × (new : Option (List ℕ))
    × (failed : Bool)
    × (flushed : Bool)
    × IsEmpty old
    × Answers old new failed flushed
    × (is_done outcome ≡ true → made.octets ≡ new)

-- No file of this name is left: none is made, or one that is gone.
abbrev pub Unmakes : {File : Type 0} → (File → Made) → (Unmade → Type 0) → List ℕ → Unmade → Type 0
Unmakes {File} made_of refuses name why =
    refuses why ⊎ ((file : File) × ((made_of file).name ≡ name) × ((made_of file).stage ≡ Gone))

-- why a file isn't made, in words
abbrev pub why_unmade : Unmade → List ℕ
why_unmade Irregular = codes "not a regular file"
why_unmade NoFolder = codes "no such folder"
why_unmade NotFolder = codes "not in a folder"
why_unmade Denied = codes "permission denied"
why_unmade ReadOnly = codes "on a file system that is only read"
why_unmade Full = codes "no space left"
why_unmade TooLong = codes "the name is too long"
why_unmade Memory = codes "out of memory"
why_unmade Other = codes "can't be made"
