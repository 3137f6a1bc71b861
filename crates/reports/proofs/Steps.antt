-- One step of each pass over the lines of a listing and over the steps of a path.
use Rattle.std.proofs.Common.{◌≡◌, ℕ, Bool, ◌+◌, ◌-◌, ◌<◌, List, None, Some, [], ◌∷◌, ◌++◌, zero, suc, true, false, ap, sym, refl, ◌∙◌, arith, cond, drop, get_or, length, nat_lt, reverse}
use Rattle.std.specs.List.{slice_get}
use Rattle.std.proofs.lemmas.List.{drop_more, reverse-append}
use Rattle.reports.specs.Picks.{state_from, judge_line, numbers_from, steps_to, steps_with}
use Rattle.reports.specs.declared.picks.PickState.{PickState}
use Rattle.reports.specs.declared.picks.Pick.{Pick}
use Rattle.reports.specs.declared.report.Line.{Line}

pub drop_with : {A : Type 0} (xs : List A) (i : ℕ) (x : A) → i < length xs → x ≡ get_or xs i x
    → drop i xs ≡ x ∷ drop (i + 1) xs
drop_with xs i x h e = drop_more xs i x h ∙ ap (λ y. y ∷ drop (i + 1) xs) (sym e)

pub reverse_push : {A : Type 0} (xs : List A) (x : A) → reverse (xs ++ x ∷ []) ≡ x ∷ reverse xs
reverse_push xs x = reverse-append xs (x ∷ [])

pub state_back : (pick : Pick) (start : PickState) (lines : List Line) (i : ℕ) (line : Line) → i < length lines
    → line ≡ get_or lines i line
    → (judge_line pick (state_from pick start (i + 1) (drop (i + 1) lines)) i line).state
    ≡ state_from pick start i (drop i lines)
state_back pick start lines i line h e = ap (state_from pick start i) (sym (drop_with lines i line h e))

pub numbers_back : (pick : Pick) (start : PickState) (lines : List Line) (i : ℕ) (line : Line) → i < length lines
    → line ≡ get_or lines i line
    → cond (judge_line pick (state_from pick start (i + 1) (drop (i + 1) lines)) i line).picked
    (i ∷ numbers_from pick start (i + 1) (drop (i + 1) lines)) (numbers_from pick start (i + 1) (drop (i + 1) lines))
    ≡ numbers_from pick start i (drop i lines)
numbers_back pick start lines i line h e = ap (numbers_from pick start i) (sym (drop_with lines i line h e))

pub steps_more : (most : ℕ) (lines : List Line) (number : ℕ) → (most ≡ 0 → ⊥)
    → steps_to most lines number
    ≡ steps_with (λ around. steps_to (most - 1) lines around) number (slice_get lines number)
steps_more zero lines number h = absurd (h refl)
steps_more (suc most) lines number h =
    let e : most ≡ suc most - 1 = omega arith in
    ap (λ n. steps_with (λ around. steps_to n lines around) number (slice_get lines number)) e

-- where there is no line of the number there are no steps
pub steps_none : (most : ℕ) (lines : List Line) (number : ℕ) → (most ≡ 0 → ⊥) → None ≡ slice_get lines number
    → [] ≡ steps_to most lines number
steps_none most lines number h e =
    ap (steps_with (λ around. steps_to (most - 1) lines around) number) e ∙ sym (steps_more most lines number h)

-- no steps, or those to the line around
steps_chosen : (b : Bool) (most : ℕ) (lines : List Line) (around : ℕ)
    → steps_to (cond b most 0) lines around ≡ cond b (steps_to most lines around) []
steps_chosen true most lines around = refl
steps_chosen false most lines around = refl

pub steps_line : (most before : ℕ) (lines : List Line) (number : ℕ) (line : Line) → (most ≡ 0 → ⊥)
    → Some line ≡ slice_get lines number → before ≡ cond (nat_lt line.around number) (most - 1) 0
    → steps_to before lines line.around ++ line.step ∷ [] ≡ steps_to most lines number
steps_line most before lines number line h e b =
    ap (λ n. steps_to n lines line.around ++ line.step ∷ []) b
    ∙ ap (λ s. s ++ line.step ∷ []) (steps_chosen (nat_lt line.around number) (most - 1) lines line.around)
    ∙ ap (steps_with (λ around. steps_to (most - 1) lines around) number) e
    ∙ sym (steps_more most lines number h)
