-- To a line that names a command the program with that command alone answers as the one with all of them.
use Rattle.std.proofs.Common.{Global, String, ◌≡◌, ◌∙◌, ◌<◌, Bool, List, [], ◌∷◌, None, Option, Some, ap, ap₂, arith, cond, false, length, map, refl, subst, sym, true}
use Rattle.std.proofs.lemmas.Option.{same_Some}
use Rattle.std.proofs.lemmas.Slice.Eq.{bytes_eq-Decides}
use Rattle.std.specs.List.{fold}
use Rattle.std.specs.Option.{is_some}
use Rattle.std.specs.Prelude.{slice_get, string_bytes}
use Rattle.std.specs.Str.{bytes_eq}
use Rattle.clap.proofs.FaultLemmas.{stopped_fault}
use Rattle.clap.proofs.OnLiterals.{clap_on_literals}
use Rattle.clap.proofs.WalkLemmas.{walk_stopped}
use Rattle.clap.specs.Faults.{built_fault, check_fault, defaults_fault, entered_fault, settle_fault, turn_fault, walk_fault}
use Rattle.clap.specs.Kinds.{or_else}
use Rattle.clap.specs.Simple.{built, entered, names_of}
use Rattle.clap.specs.Walk.{Walk, finished, nothing_held, settled, walk, walk_from, walked}
use Rattle.clap.specs.Words.{App, Kinds, Shape, Text, fault_of, is_simple, is_simple_and_free, subcommand_of, with_subcommand}
use Rattle.pkder.specs.CommandLines.{check_shape, command_named, explain_shape, normalise_shape, program, program_for, program_with, same_shape, show_shape, signed_shape, top}

-- the words after a command's name are left to it
abbrev left_to : Text → List Text → Walk
left_to name words = record (walk_from nothing_held) { stopped = Some (name, words) }

-- what is wrong with a line, by where reading it ended and what was wrong before
abbrev fault_at : App → Walk → Kinds → Kinds
fault_at a end fault =
    or_else fault
    (or_else (entered_fault a end.stopped)
    (or_else (settle_fault a.top.rules a.top.args_override_self end.held)
    (or_else (defaults_fault (settled a.top.rules end.held).rows a.top.rules)
    (check_fault a.top (finished a.top.rules end.held) (is_some (entered a end.stopped))))))

-- the name, as the first word, is met as a command
abbrev IsMet : App → Text → Type 0
IsMet a name =
    (walked a.top.rules (names_of a) (walk_from nothing_held) name ≡ left_to name [])
    × (turn_fault a.top (names_of a) (walk_from nothing_held) name ≡ [])

module _ (a : App) (name : Text) (met : IsMet a name) (words : List Text) where
  walk_is : walk a.top.rules (names_of a) nothing_held (name ∷ words) ≡ left_to name words
  walk_is =
      ap (λ w. fold (walked a.top.rules (names_of a)) w words) met.0
      ∙ sym (walk_stopped a.top.rules (names_of a) (walk_from nothing_held) name [] words)

  no_fault : walk_fault a.top (names_of a) (walk_from nothing_held) (name ∷ words) ≡ []
  unfolding walk_fault
  no_fault =
      ap₂ or_else met.1
      (ap (λ w. walk_fault a.top (names_of a) w words) met.0
      ∙ stopped_fault a.top (names_of a) (walk_from nothing_held) (name, []) words)

  fault_is : built_fault a nothing_held (name ∷ words) ≡ fault_at a (left_to name words) []
  fault_is = ap₂ (fault_at a) walk_is no_fault

  entered_is : entered a (walk a.top.rules (names_of a) nothing_held (name ∷ words)).stopped
      ≡ entered a (Some (name, words))
  entered_is = ap (λ w. entered a w.stopped) walk_is

-- the line means the same to it as to the program with all commands
abbrev pub MeansSame : List Text → App → Type 0
MeansSame words app =
    (is_simple app ≡ true)
    × (is_simple_and_free app ≡ true)
    × (fault_of app words ≡ fault_of program words)
    × (subcommand_of app words ≡ subcommand_of program words)

all_mean_same : (words : List Text) → MeansSame words program
all_mean_same words = (refl, refl, refl, refl)

-- with this command alone
module _ (command : Shape) (simple : is_simple (with_subcommand top command) ≡ true)
    (free : is_simple_and_free (with_subcommand top command) ≡ true)
    (alone : IsMet (built (with_subcommand top command)) command.name) (among : IsMet (built program) command.name)
    (faults : (words : List Text)
    → fault_at (built (with_subcommand top command)) (left_to command.name words) []
    ≡ fault_at (built program) (left_to command.name words) [])
    (rows : (words : List Text)
    → entered (built (with_subcommand top command)) (Some (command.name, words))
    ≡ entered (built program) (Some (command.name, words)))
    (first word : Text) (words : List Text) where
  named_so : MeansSame (first ∷ command.name ∷ words) (with_subcommand top command)
  named_so = (
    simple,
    free,
    fault_is (built (with_subcommand top command)) command.name alone words ∙ faults words
        ∙ sym (fault_is (built program) command.name among words),
    entered_is (built (with_subcommand top command)) command.name alone words ∙ rows words
        ∙ sym (entered_is (built program) command.name among words),
  )

  -- or else with another one, where the word isn't its name
  or_other : (other : Option Shape) → MeansSame (first ∷ word ∷ words) (program_with other)
      → MeansSame (first ∷ word ∷ words) (program_with (cond (bytes_eq word command.name) (Some command) other))
  or_other other same = go (bytes_eq word command.name) refl
    where
      go : (b : Bool) → bytes_eq word command.name ≡ b
          → MeansSame (first ∷ word ∷ words) (program_with (cond b (Some command) other))
      go true e =
          subst (λ w. MeansSame (first ∷ w ∷ words) (with_subcommand top command))
          (sym ((bytes_eq-Decides word command.name).0 e)) named_so
      go false e = same

module _ (first word : Text) (words : List Text) where
  named : MeansSame (first ∷ word ∷ words) (program_with (command_named word))
  unfolding clap_on_literals
  named =
      or_other check_shape refl refl (refl, refl) (refl, refl) (λ rest. refl) (λ rest. refl) first word words _
      (or_other explain_shape refl refl (refl, refl) (refl, refl) (λ rest. refl) (λ rest. refl) first word words _
      (or_other show_shape refl refl (refl, refl) (refl, refl) (λ rest. refl) (λ rest. refl) first word words _
      (or_other same_shape refl refl (refl, refl) (refl, refl) (λ rest. refl) (λ rest. refl) first word words _
      (or_other normalise_shape refl refl (refl, refl) (refl, refl) (λ rest. refl) (λ rest. refl) first word words _
      (or_other signed_shape refl refl (refl, refl) (refl, refl) (λ rest. refl) (λ rest. refl) first word words None
      (all_mean_same (first ∷ word ∷ words)))))))

pub means_same : (words : List Text) → MeansSame words (program_for words)
means_same [] = all_mean_same []
means_same (first ∷ []) = all_mean_same (first ∷ [])
means_same (first ∷ word ∷ words) = named first word words

-- ---- which program is built

-- of a line without a word after the program's name
pub program_of_none : (words : List (String Global)) → length words < 2
    → program ≡ program_for (map (λ w. string_bytes w) words)
program_of_none [] few = refl
program_of_none (name ∷ []) few = refl
program_of_none (name ∷ word ∷ words) few = absurd (omega (arith, few))

-- of a line with one
pub program_of_word : (words : List (String Global)) (word : String Global) → slice_get words 1 ≡ Some word
    → program_with (command_named (string_bytes word)) ≡ program_for (map (λ w. string_bytes w) words)
program_of_word [] word e = absurd cc
program_of_word (name ∷ []) word e = absurd cc
program_of_word (name ∷ other ∷ words) word e =
    ap (λ w. program_with (command_named (string_bytes w))) (sym (same_Some other word e))
