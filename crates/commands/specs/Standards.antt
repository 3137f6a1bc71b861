-- Standard streams, and names of them and of files.
use Rattle.std.specs.Prelude.{◌≡◌, Bool, List, None, Option, Some, codes, cond, false, true, ℕ}
use Rattle.std.specs.Option.{option_map}
use Rattle.std.specs.Str.{bytes_eq}
use Rattle.commands.specs.Endings.{WritesLine}
use Rattle.commands.specs.declared.standard.Standard.{Standard}
use Rattle.commands.specs.declared.files.Came.{Came}
use Rattle.commands.specs.declared.files.Came.TheVariants.{Ran, Unopened}
use Rattle.commands.specs.declared.opener.Unopened.{Unopened as Why}
use Rattle.commands.specs.declared.outcome.Outcome.TheVariants.{ReadFailed}

abbrev pub is_dash : List ℕ → Bool
is_dash name = bytes_eq name (codes "-")

-- the name of a file; nothing where a standard stream is named, or nothing
abbrev pub file_named : Option (List ℕ) → Option (List ℕ)
file_named None = None
file_named (Some name) = cond (is_dash name) None (Some name)

-- What is known of the streams of a program: what is known of standard input, if it isn't taken; what standard output
-- contains, whether it has failed, and whether it is flushed; what standard error contains, and whether it has failed.
pub record Seen : Type 0 where
  pub input : Option (Option (List ℕ))
  pub output : Option (List ℕ)
  pub output_failed : Bool
  pub flushed : Bool
  pub errors : Option (List ℕ)
  pub errors_failed : Bool

abbrev pub seen : {R W E : Type 0} → (R → Option (List ℕ)) → (W → Option (List ℕ)) → (W → Bool) → (W → Bool)
    → (E → Option (List ℕ)) → (E → Bool) → Standard R W E → Seen
seen {R} {W} {E} remaining contents has_failed is_flushed said said_failed standard = record {
  input = option_map remaining standard.input;
  output = contents standard.output;
  output_failed = has_failed standard.output;
  flushed = is_flushed standard.output;
  errors = said standard.errors;
  errors_failed = said_failed standard.errors;
}

-- This line is written on standard error.
abbrev pub Says : List ℕ → Seen → Seen → Type 0
Says line old new = WritesLine line old.errors new.errors new.errors_failed

-- It is, and nothing is written on standard output.
abbrev pub SaysAlone : List ℕ → Seen → Seen → Type 0
SaysAlone line old new = Says line old new × (new.output ≡ old.output) × (new.output_failed ≡ old.output_failed)

-- A command ends with this line and this status.
abbrev pub Ends : Seen → Seen → ℕ → List ℕ → ℕ → Type 0
Ends old new answered line status = Says line old new × (answered ≡ status)

abbrev pub EndsAlone : Seen → Seen → ℕ → List ℕ → ℕ → Type 0
EndsAlone old new answered line status = SaysAlone line old new × (answered ≡ status)

-- standard input, where it isn't taken, hasn't failed
abbrev pub IsReadable : {Source : Type 0} → (Source → Bool) → Option Source → Type 0
IsReadable {Source} has_failed None = Unit {0}
IsReadable {Source} has_failed (Some input) = has_failed input ≡ false

-- ---- what a name leads to: `-` to standard input, of which these octets are known, if it isn't taken

abbrev pub LeadsTo : (List ℕ → Option (List ℕ)) → List ℕ → Option (Option (List ℕ)) → Bool → Option (List ℕ) → Type 0
LeadsTo known name input true octets = input ≡ Some octets
LeadsTo known name input false octets = octets ≡ known name

-- A document comes by its name, and these octets are known of it.
abbrev pub Comes : (List ℕ → Option (List ℕ)) → List ℕ → Option (Option (List ℕ)) → Option (List ℕ) → Type 0
Comes known name input octets = LeadsTo known name input (is_dash name) octets

abbrev pub LeadsNowhere : (List ℕ → Why → Type 0) → List ℕ → Option (Option (List ℕ)) → Bool → Came → Type 0
LeadsNowhere unopened name input true came = (input ≡ None) × (came ≡ Ran (ReadFailed 0))
LeadsNowhere unopened name input false came = (why : Why) × unopened name why × (came ≡ Unopened why)

-- None comes by its name, and this is why.
abbrev pub ComesNot : (List ℕ → Why → Type 0) → List ℕ → Option (Option (List ℕ)) → Came → Type 0
ComesNot unopened name input came = LeadsNowhere unopened name input (is_dash name) came

-- what is left of standard input after a document of this name
abbrev pub input_after : {Octets : Type 0} → List ℕ → Option Octets → Option Octets
input_after {Octets} name input = cond (is_dash name) None input
