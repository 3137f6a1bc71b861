-- Lists that were put one after another.
use Rattle.std.proofs.Common.{◌≡◌, ◌++◌, ◌∙◌, Err, List, Ok, Result, ap, append_assoc, sym}
use Rattle.std.specs.Prelude.{OnOk}

pub gathered : {A : Type 0} (old a b c d e f z : List A)
    → ((((((old ++ a) ++ b) ++ c) ++ d) ++ e) ++ f) ++ z ≡ old ++ (a ++ ((b ++ (c ++ (d ++ (e ++ f)))) ++ z))
gathered old a b c d e f z =
    append_assoc (((((old ++ a) ++ b) ++ c) ++ d) ++ e) f z
    ∙ append_assoc ((((old ++ a) ++ b) ++ c) ++ d) e (f ++ z)
    ∙ append_assoc (((old ++ a) ++ b) ++ c) d (e ++ (f ++ z))
    ∙ append_assoc ((old ++ a) ++ b) c (d ++ (e ++ (f ++ z)))
    ∙ append_assoc (old ++ a) b (c ++ (d ++ (e ++ (f ++ z))))
    ∙ append_assoc old a (b ++ (c ++ (d ++ (e ++ (f ++ z)))))
    ∙ ap (λ rest. old ++ (a ++ rest)) (within b c d e f z)
  where
    within : {A : Type 0} (b c d e f z : List A)
        → b ++ (c ++ (d ++ (e ++ (f ++ z)))) ≡ (b ++ (c ++ (d ++ (e ++ f)))) ++ z
    within b c d e f z =
        ap (λ rest. b ++ (c ++ (d ++ rest))) (sym (append_assoc e f z))
        ∙ ap (λ rest. b ++ (c ++ rest)) (sym (append_assoc d (e ++ f) z))
        ∙ ap (λ rest. b ++ rest) (sym (append_assoc c (d ++ (e ++ f)) z))
        ∙ sym (append_assoc b (c ++ (d ++ (e ++ f))) z)

pub on_ok : {S E P Q : Type 0} (result : Result S E) → (P → Q) → OnOk result P → OnOk result Q
on_ok (Ok value) f h = f h
on_ok (Err error) f h = tt
