use Rattle.std.proofs.Common.{List, arith, false, length, refl, true, ℕ, [], ◌==◌, ◌≡◌, ◌∙◌, ◌∷◌}
use Rattle.std.proofs.lemmas.Bool.Decides.{nat_tests}
use Rattle.explain.specs.TextGuesses.{or_label}
use Rattle.explain.proofs.guess.texts.or_among.Goals as goal

no_label : (found other label : List ℕ) → true ≡ (length found == 0) → label ≡ other → label ≡ or_label found other
no_label [] other label empty is = is
no_label (octet ∷ octets) other label empty is =
    let some : (length (octet ∷ octets) == 0) ≡ false = grind (arith, nat_tests) in
    let no : true ≡ false = empty ∙ some in
    cc

a_label : (found other : List ℕ) → false ≡ (length found == 0) → found ≡ or_label found other
a_label [] other full = absurd cc
a_label (octet ∷ octets) other full = refl

pub returns-then-is_empty : goal.returns-then-is_empty
returns-then-is_empty c = no_label c.args.found.now _ _ c.if-is_empty.ensures c.label_among.ensures

pub returns-else-is_empty : goal.returns-else-is_empty
returns-else-is_empty c = a_label c.args.found.now _ c.if-is_empty.ensures
