-- Which document comes by a name, and what comparing two by their names comes to.
use Rattle.std.proofs.Common.{◌≡◌, ◌∙◌, Bool, List, None, Option, Some, ap, cond, false, inr, refl, subst, sym, true, ℕ}
use Rattle.x690.specs.Values.{Value}
use Rattle.pk_documents.specs.declared.document.Document.{Document}
use Rattle.commands.specs.Endings.{WritesLine}
use Rattle.commands.specs.Files.{line_after}
use Rattle.commands.specs.Names.{shown_name}
use Rattle.commands.specs.Pairs.{ComparesNamed, ComparesWith}
use Rattle.commands.specs.Standards.{Comes, ComesNot, LeadsNowhere, LeadsTo, Seen, input_after, is_dash}
use Rattle.commands.specs.declared.question.Comparison.{Comparison}
use Rattle.commands.specs.declared.files.Came.TheVariants.{Ran, Unopened}
use Rattle.commands.specs.declared.opener.Unopened.{Unopened as Why}
use Rattle.commands.specs.declared.outcome.Outcome.TheVariants.{ReadFailed}

-- a line after a name that is shown so
pub after_name : (known name words : List ℕ) (old new : Option (List ℕ)) (failed : Bool) → known ≡ shown_name name
    → WritesLine (line_after known words) old new failed
    → WritesLine (line_after (shown_name name) words) old new failed
after_name known name words old new failed known_is line =
    subst (λ it. WritesLine (line_after it words) old new failed) known_is line

module _ (unopened : List ℕ → Why → Type 0) (name : List ℕ) (input : Option (Option (List ℕ))) where
  pub none_is_taken : is_dash name ≡ true → input ≡ None → ComesNot unopened name input (Ran (ReadFailed 0))
  none_is_taken dash none =
      subst (λ it. LeadsNowhere unopened name input it (Ran (ReadFailed 0))) (sym dash) (none, refl)

  pub none_is_opened : (why : Why) → is_dash name ≡ false → unopened name why
      → ComesNot unopened name input (Unopened why)
  none_is_opened why file refused =
      subst (λ it. LeadsNowhere unopened name input it (Unopened why)) (sym file) (why, refused, refl)

module _ (known : List ℕ → Option (List ℕ)) (name : List ℕ) (input : Option (Option (List ℕ)))
    (octets : Option (List ℕ)) where
  pub is_input : is_dash name ≡ true → input ≡ Some octets → Comes known name input octets
  is_input dash some = subst (λ it. LeadsTo known name input it octets) (sym dash) some

  pub is_file : is_dash name ≡ false → octets ≡ known name → Comes known name input octets
  is_file file octets_are = subst (λ it. LeadsTo known name input it octets) (sym file) octets_are

module _ (value_of : Document → Value) (known : List ℕ → Option (List ℕ)) (unopened : List ℕ → Why → Type 0)
    (comparison : Comparison) (first second : List ℕ) (octets : Option (List ℕ)) (input : Option (Option (List ℕ)))
    (old new : Seen) (status : ℕ)
    (with : ComparesWith value_of known unopened comparison first second octets input old new status) where
  -- the first one is that of standard input
  pub named_from_input : is_dash first ≡ true → old.input ≡ Some octets → input ≡ None
      → ComparesNamed value_of known unopened comparison first second old new status
  named_from_input dash some none =
      let after : input ≡ input_after first old.input = none ∙ sym (ap (λ it. cond it None old.input) dash) in
      inr (inr (
        octets,
        is_input known first old.input octets dash some,
        subst (λ it. ComparesWith value_of known unopened comparison first second octets it old new status) after with,
      ))

  pub named_from_file : is_dash first ≡ false → octets ≡ known first → input ≡ old.input
      → ComparesNamed value_of known unopened comparison first second old new status
  named_from_file file octets_are same =
      let after : input ≡ input_after first old.input = same ∙ sym (ap (λ it. cond it None old.input) file) in
      inr (inr (
        octets,
        is_file known first old.input octets file octets_are,
        subst (λ it. ComparesWith value_of known unopened comparison first second octets it old new status) after with,
      ))
