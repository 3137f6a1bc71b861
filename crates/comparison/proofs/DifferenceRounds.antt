-- One round of comparing the lists of two documents.
use Rattle.std.proofs.Common.{List, ap, append_assoc, arith, length, suc, sym, zero, ℕ, ◌++◌, ◌-◌, ◌<◌, ◌∙◌, ◌≡◌}
use Rattle.reports.specs.declared.report.Line.{Line}
use Rattle.comparison.specs.DifferenceLists.{after_pass, differences_along, differences_of, first_pass, meeting, second_pass}
use Rattle.comparison.specs.declared.difference_list.Difference.{Difference}
use Rattle.comparison.specs.declared.difference_list.Meeting.{Meeting}
use Rattle.comparison.specs.declared.difference_list.Pass.{Pass}

-- what a round shows, and then the other rounds
pub along_more : (rounds : ℕ) (first second : List ℕ) (left right : List Line) (m n : ℕ) → 0 < rounds
    → differences_along rounds first second left right m n
    ≡ differences_of (meeting first second left right) (m - length left) (n - length right)
    ++ differences_along (rounds - 1) first second (after_pass (first_pass (meeting first second left right)) left)
    (after_pass (second_pass (meeting first second left right)) right) m n
along_more zero first second left right m n h = absurd (omega (arith, h))
along_more (suc rounds) first second left right m n h =
    let e : rounds ≡ suc rounds - 1 = omega arith in
    ap (λ count.
    differences_of (meeting first second left right) (m - length left) (n - length right)
    ++ differences_along count first second (after_pass (first_pass (meeting first second left right)) left)
    (after_pass (second_pass (meeting first second left right)) right) m n) e

-- what is shown after a round, and what the other rounds show, stay the same together
pub round_kept : (rounds : ℕ) (first second : List ℕ) (left right left' right' : List Line) (m n number other : ℕ)
    (met : Meeting) (pass pass' : Pass) (old new whole : List Difference) → 0 < rounds
    → met ≡ meeting first second left right → number ≡ m - length left → other ≡ n - length right
    → pass ≡ first_pass met → pass' ≡ second_pass met → left' ≡ after_pass pass left → right' ≡ after_pass pass' right
    → new ≡ old ++ differences_of met number other → old ++ differences_along rounds first second left right m n ≡ whole
    → new ++ differences_along (rounds - 1) first second left' right' m n ≡ whole
round_kept rounds first second left right left' right' m n number other met pass pass' old new whole some hm hn ho hp hq
    hl hr shown_new kept =
    let it : Meeting = meeting first second left right in
    let t : List Difference = differences_of it (m - length left) (n - length right) in
    let next : List Line = after_pass (first_pass it) left in
    let next' : List Line = after_pass (second_pass it) right in
    let w : List Difference = differences_along (rounds - 1) first second next next' m n in
    let e : new ≡ old ++ t =
    shown_new
    ∙ ap (λ z. old ++ differences_of z number other) hm
    ∙ ap (λ z. old ++ differences_of it z other) hn
    ∙ ap (λ z. old ++ differences_of it (m - length left) z) ho in
    let to_left : left' ≡ next = hl ∙ ap (λ p. after_pass p left) (hp ∙ ap first_pass hm) in
    let to_right : right' ≡ next' = hr ∙ ap (λ p. after_pass p right) (hq ∙ ap second_pass hm) in
    ap (λ z. z ++ differences_along (rounds - 1) first second left' right' m n) e
    ∙ ap (λ z. (old ++ t) ++ differences_along (rounds - 1) first second z right' m n) to_left
    ∙ ap (λ z. (old ++ t) ++ differences_along (rounds - 1) first second next z m n) to_right
    ∙ append_assoc old t w
    ∙ ap (λ z. old ++ z) (sym (along_more rounds first second left right m n some))
    ∙ kept
