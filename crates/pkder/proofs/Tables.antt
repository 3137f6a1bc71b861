-- Commands that are found by their names, and lists of rows that are gone through.
use Rattle.std.proofs.Common.{◌≡◌, ◌≤◌, ◌<◌, ◌-◌, ◌+◌, ◌∙◌, Bool, List, Option, Some, [], ◌∷◌, ap, arith, cond, drop, false, length, map, refl, sym, take, take_all, true, ℕ}
use Rattle.std.specs.Prelude.{slice_index_or}
use Rattle.std.specs.List.{find, fold}
use Rattle.std.specs.Str.{bytes_eq}
use Rattle.std.proofs.lemmas.List.{drop_more}
use Rattle.clap.specs.Words.{App, Rule, Text, with_rule, with_subcommand}
use Rattle.pkder.specs.declared.arguments.Subcommand.{Subcommand}
use Rattle.pkder.specs.Tables.{rule_in, shape_in}

-- options change no name
name_kept : (app : App) (rules : List Rule) → (fold with_rule app rules).top.name ≡ app.top.name
name_kept app [] = refl
name_kept app (rule ∷ rules) = name_kept (with_rule app rule) rules

module _ (word : Text) where
  is_named : (it : Subcommand) (b : Bool) → bytes_eq word it.name.now ≡ b → bytes_eq word (shape_in it).name ≡ b
  is_named it b is = ap (bytes_eq word) (name_kept _ (map rule_in it.arguments.now)) ∙ is

  pub found_first : (among : List Subcommand) (d : Subcommand) → 1 ≤ length among
      → bytes_eq word (slice_index_or among 0 d).name.now ≡ true
      → Some (shape_in (slice_index_or among 0 d)) ≡ find (λ shape. bytes_eq word shape.name) (map shape_in among)
  found_first [] d some is = absurd (omega (arith, some))
  found_first (it ∷ later) d some is =
      ap (λ b. cond b (Some (shape_in it)) (find (λ shape. bytes_eq word shape.name) (map shape_in later)))
      (sym (is_named it true is))

  pub found_later : (among : List Subcommand) (d : Subcommand) → 1 ≤ length among
      → bytes_eq word (slice_index_or among 0 d).name.now ≡ false
      → find (λ shape. bytes_eq word shape.name) (map shape_in (take (length among - 1) (drop 1 among)))
      ≡ find (λ shape. bytes_eq word shape.name) (map shape_in among)
  found_later [] d some is = absurd (omega (arith, some))
  found_later (it ∷ later) d some is =
      let all : take (length (it ∷ later) - 1) later ≡ later = take_all _ later (omega arith) in
      ap (λ among. find (λ shape. bytes_eq word shape.name) (map shape_in among)) all
      ∙ ap (λ b. cond b (Some (shape_in it)) (find (λ shape. bytes_eq word shape.name) (map shape_in later)))
      (sym (is_named it false is))

-- the commands from one on are that one and those after it
pub next_added : (app : App) (rows : List Subcommand) (i : ℕ) (d : Subcommand) → i < length rows
    → fold with_subcommand (with_subcommand app (shape_in (slice_index_or rows i d))) (map shape_in (drop (i + 1) rows))
    ≡ fold with_subcommand app (map shape_in (drop i rows))
next_added app rows i d within =
    ap (λ left. fold with_subcommand app (map shape_in left)) (sym (drop_more rows i d within))
