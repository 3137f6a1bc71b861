use Rattle.std.proofs.Common.{List, None, Option, Some, ap, sym, ℕ, ◌≡◌, ◌∙◌}
use Rattle.std.specs.Borrow.{Bor}
use Rattle.std.specs.Option.{option_map}
use Rattle.explain.specs.Guesses.{IsText}
use Rattle.explain.specs.TextGuesses.{block_in, guess_by_text, head_of, pem_guess, pem_label}
use Rattle.reports.specs.declared.report.Guess.{Guess}
use Rattle.explain.proofs.guess.text_guess.Goals as goal

-- PEM, by its label
of_pem : (octets text block : List ℕ) (label : Option (List ℕ)) (own : Bor (List ℕ)) (guess : Guess)
    → Some own.now ≡ label → text ≡ head_of octets → block ≡ block_in (head_of octets)
    → guess ≡ pem_guess own block text → IsText label octets guess
of_pem octets text block (Some label) own guess is begins from it = (
  own,
  cc,
  it ∙ (ap (λ b. pem_guess own b text) from ∙ ap (pem_guess own (block_in (head_of octets))) begins),
)
of_pem octets text block None own guess is begins from it = absurd cc

-- no PEM
of_text : (octets : List ℕ) (label : Option (List ℕ)) (guess : Guess) → None ≡ label → guess ≡ guess_by_text octets
    → IsText label octets guess
of_text octets None guess none it = it
of_text octets (Some label) guess none it = absurd cc

pub returns-in-Some : goal.returns-in-Some
returns-in-Some c =
    of_pem c.args.octets.now c.head_of-text.result.now c.block_in-block.result.now
    (pem_label (block_in (head_of c.args.octets.now))) c.in-Some.label c.pem_guess.result
    (sym (ap (option_map (λ r. r.now)) c.in-Some.is)
    ∙ (c.pem_label.ensures ∙ ap pem_label (c.block_in-block.ensures ∙ ap block_in c.head_of-text.ensures)))
    c.head_of-text.ensures (c.block_in-block.ensures ∙ ap block_in c.head_of-text.ensures) c.pem_guess.ensures

pub returns-in-None : goal.returns-in-None
returns-in-None c =
    of_text c.args.octets.now (pem_label (block_in (head_of c.args.octets.now))) c.guess_by_text.result
    (sym (ap (option_map (λ r. r.now)) c.in-None.is)
    ∙ (c.pem_label.ensures ∙ ap pem_label (c.block_in-block.ensures ∙ ap block_in c.head_of-text.ensures)))
    c.guess_by_text.ensures
