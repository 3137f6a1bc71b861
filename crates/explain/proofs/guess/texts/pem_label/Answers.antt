use Rattle.std.proofs.Common.{List, Some, codes, drop, refl, true, ℕ, ◌≡◌}
use Rattle.pk_documents.specs.KindRows.{kinds}
use Rattle.explain.specs.TextGuesses.{begin_with, label_of, pem_label}
use Rattle.explain.proofs.guess.texts.pem_label.Goals as goal

begun : (octets label : List ℕ) → begin_with (codes "-----BEGIN ") octets ≡ true
    → label ≡ label_of kinds (drop 11 octets) → Some label ≡ pem_label octets
begun octets label begins is = rw (begins, is) refl

pub returns-in-Some : goal.returns-in-Some
returns-in-Some c =
    begun c.args.text.now _ c.in-Some.ensures.cases.0 (rw (← c.in-Some.ensures.cases.1) c.label_of.ensures)
