-- What is shown of the lists of two documents differs.
use Rattle.std.proofs.Common.{Bool, List, Some, [], ap, arith, cond, false, inl, inr, length, length-append, refl, suc, sym, true, zero, ℕ, ◌&&◌, ◌+◌, ◌++◌, ◌-◌, ◌<◌, ◌==◌, ◌∙◌, ◌∷◌, ◌≡◌, ◌≢◌, ◌⊎◌, append-nil, append_assoc, nat_lt, nat_le}
use Rattle.std.specs.List.{slice_get}
use Rattle.std.specs.Str.{bytes_eq}
use Rattle.std.proofs.Math.Seq.{get_or-append_seam}
use Rattle.std.proofs.lemmas.Bool.Decides.{nat_tests}
use Rattle.std.proofs.lemmas.Option.{slice_get-get_or}
use Rattle.std.proofs.lemmas.Slice.Eq.{bytes_eq-Decides}
use Rattle.reports.specs.declared.report.Line.{Line}
use Rattle.comparison.specs.Differences.{AreDifferences, IsAlone, SomeIsShown, WhatIsShownDiffers, is_of_field, outermost}
use Rattle.comparison.specs.DifferenceLists.{after_pass, deeper, differences, differences_along, differences_of, first_pass, follows, meet_field, meet_lines, meeting, octets_of, or_outermost, same_step, second_pass}
use Rattle.comparison.specs.declared.difference_list.Difference.{Difference}
use Rattle.comparison.specs.declared.difference_list.Meeting.{Meeting}
use Rattle.comparison.specs.declared.difference_list.Meeting.TheVariants.{Differ, Ended, Equal, First, Inside, Second}
use Rattle.comparison.specs.declared.difference_list.Pass.{Pass}
use Rattle.comparison.specs.declared.difference_list.Pass.TheVariants.{One, Stay, Whole}

-- ---- lines by their numbers

place_at : (before : List Line) (line : Line) (later : List Line)
    → slice_get (before ++ line ∷ later) (length before) ≡ Some line
place_at before line later =
    let count = length-append before (line ∷ later) in
    let within : length before < length (before ++ line ∷ later) = omega (arith, count) in
    slice_get-get_or (before ++ line ∷ later) (length before) line within
    ∙ ap Some (get_or-append_seam before line later line)

-- the first of the lines that are left has the number that is shown
place_of : (lines before : List Line) (line : Line) (later : List Line) → lines ≡ before ++ line ∷ later
    → slice_get lines (length lines - length (line ∷ later)) ≡ Some line
place_of lines before line later e =
    let count = length-append before (line ∷ later) in
    let whole = ap length e in
    let at : length lines - length (line ∷ later) ≡ length before = omega (arith, count, whole) in
    ap (slice_get lines) at ∙ ap (λ z. slice_get z (length before)) e ∙ place_at before line later

-- ---- what is left is at the end of a list

kept_or : (b : Bool) (line : Line) (lines rest : List Line) → (before : List Line) × (lines ≡ before ++ rest)
    → (before : List Line) × (line ∷ lines ≡ before ++ cond b (line ∷ lines) rest)
kept_or true line lines rest h = ([], refl)
kept_or false line lines rest h = (line ∷ h.0, ap (λ z. line ∷ z) h.1)

deeper_ends : (depth : ℕ) (lines : List Line) → (before : List Line) × (lines ≡ before ++ deeper depth lines)
deeper_ends depth [] = ([], refl)
deeper_ends depth (line ∷ lines) =
    kept_or (nat_le line.depth depth) line lines (deeper depth lines) (deeper_ends depth lines)

pub after_ends : (pass : Pass) (lines : List Line) → (before : List Line) × (lines ≡ before ++ after_pass pass lines)
after_ends Stay [] = ([], refl)
after_ends One [] = ([], refl)
after_ends Whole [] = ([], refl)
after_ends Stay (line ∷ lines) = ([], refl)
after_ends One (line ∷ lines) = (line ∷ [], refl)
after_ends Whole (line ∷ lines) =
    let h = deeper_ends line.depth lines in (line ∷ h.0, ap (λ z. line ∷ z) h.1)

-- so does what is left of that
pub further : (lines before left more left' : List Line) → lines ≡ before ++ left → left ≡ more ++ left'
    → lines ≡ (before ++ more) ++ left'
further lines before left more left' e h = e ∙ ap (λ z. before ++ z) h ∙ sym (append_assoc before more left')

-- ---- which meeting it is

first_alone : (deeper shallower same later level : Bool) (m : Meeting)
    → cond deeper First (cond shallower Second (cond same m (cond later Second First))) ≡ First → (m ≡ First → ⊥)
    → (deeper ≡ true → level ≡ false) → (level && same) ≡ false
first_alone true shallower same later level m e h d = ap (λ b. b && same) (d refl)
first_alone false true same later level m e h d = absurd (cc)
first_alone false false true later level m e h d = absurd (h e)
first_alone false false false later true m e h d = refl
first_alone false false false later false m e h d = refl

second_alone : (deeper shallower same later level : Bool) (m : Meeting)
    → cond deeper First (cond shallower Second (cond same m (cond later Second First))) ≡ Second → (m ≡ Second → ⊥)
    → (shallower ≡ true → level ≡ false) → (level && same) ≡ false
second_alone true shallower same later level m e h d = absurd (cc)
second_alone false true same later level m e h d = ap (λ b. b && same) (d refl)
second_alone false false true later level m e h d = absurd (h e)
second_alone false false false later true m e h d = refl
second_alone false false false later false m e h d = refl

differ_met : (deeper shallower same later : Bool) (m : Meeting)
    → cond deeper First (cond shallower Second (cond same m (cond later Second First))) ≡ Differ
    → (deeper ≡ false) × (shallower ≡ false) × (same ≡ true) × (m ≡ Differ)
differ_met true shallower same later m e = absurd (cc)
differ_met false true same later m e = absurd (cc)
differ_met false false true later m e = (refl, refl, refl, e)
differ_met false false false true m e = absurd (cc)
differ_met false false false false m e = absurd (cc)

field_not_first : (into same : Bool) → cond into Inside (cond same Equal Differ) ≡ First → ⊥
field_not_first true same e = cc
field_not_first false true e = cc
field_not_first false false e = cc

field_not_second : (into same : Bool) → cond into Inside (cond same Equal Differ) ≡ Second → ⊥
field_not_second true same e = cc
field_not_second false true e = cc
field_not_second false false e = cc

field_differs : (into same : Bool) → cond into Inside (cond same Equal Differ) ≡ Differ → same ≡ false
field_differs true same e = absurd (cc)
field_differs false true e = absurd (cc)
field_differs false false e = refl

apart : (a b : ℕ) → nat_lt a b ≡ true → (a == b) ≡ false
apart a b e = grind (arith, nat_tests)

level : (a b : ℕ) → nat_lt b a ≡ false → nat_lt a b ≡ false → a ≡ b
level a b e h = grind (arith, nat_tests)

unequal : (xs ys : List ℕ) → bytes_eq xs ys ≡ false → xs ≢ ys
unequal xs ys f e =
    let t : bytes_eq xs ys ≡ true = (bytes_eq-Decides xs ys).1 e in
    cc (t, f)

-- ---- what a meeting shows

alone_before_end : (lines before others : List Line) (line : Line) (later : List Line) → lines ≡ before ++ line ∷ later
    → IsAlone same_step lines others (length lines - length (line ∷ later))
alone_before_end lines before others line later e =
    record {
      line = line;
      before = others;
      after = [];
      listed = place_of lines before line later e;
      place = sym (append-nil others);
      none = refl;
    }

other_before_end : (others before lines : List Line) (other : Line) (rest : List Line) → others ≡ before ++ other ∷ rest
    → IsAlone is_of_field others lines (length others - length (other ∷ rest))
other_before_end others before lines other rest e =
    record {
      line = other;
      before = lines;
      after = [];
      listed = place_of others before other rest e;
      place = sym (append-nil lines);
      none = refl;
    }

meeting_shown : (first second : List ℕ) (lines others before before' : List Line) (line : Line) (later : List Line)
    (other : Line) (rest : List Line) (more : List Difference) (m : Meeting) → lines ≡ before ++ line ∷ later
    → others ≡ before' ++ other ∷ rest → meet_lines first second line later other rest ≡ m
    → AreDifferences first second lines others more
    → AreDifferences first second lines others
    (differences_of m (length lines - length (line ∷ later)) (length others - length (other ∷ rest)) ++ more)
meeting_shown first second lines others before before' line later other rest more Ended e h is all = all
meeting_shown first second lines others before before' line later other rest more Inside e h is all = all
meeting_shown first second lines others before before' line later other rest more Equal e h is all = all
meeting_shown first second lines others before before' line later other rest more First e h is all = (
  record {
    line = line;
    before = before';
    after = other ∷ rest;
    listed = place_of lines before line later e;
    place = h;
    none = first_alone (nat_lt other.depth line.depth) (nat_lt line.depth other.depth)
        (same_step line.step other.step) (follows line.step line.depth rest) (other.depth == line.depth) _ is
        (field_not_first _ _) (apart other.depth line.depth);
  },
  all,
)
meeting_shown first second lines others before before' line later other rest more Second e h is all = (
  record {
    line = other;
    before = before;
    after = line ∷ later;
    listed = place_of others before' other rest h;
    place = e;
    none = second_alone (nat_lt other.depth line.depth) (nat_lt line.depth other.depth)
        (same_step line.step other.step) (follows line.step line.depth rest) (line.depth == other.depth) _ is
        (field_not_second _ _) (apart line.depth other.depth);
  },
  all,
)
meeting_shown first second lines others before before' line later other rest more Differ e h is all =
    let met = differ_met (nat_lt other.depth line.depth) (nat_lt line.depth other.depth)
    (same_step line.step other.step) (follows line.step line.depth rest)
    (meet_field first second line later other rest) is in (
      record {
        line = line;
        other = other;
        listed = place_of lines before line later e;
        other_listed = place_of others before' other rest h;
        field = met.2;
        depth = level line.depth other.depth met.0 met.1;
        octets = unequal (octets_of first line) (octets_of second other) (field_differs _ _ met.3);
      },
      all,
    )

round_shown : (first second : List ℕ) (lines others before before' left right : List Line) (more : List Difference)
    → lines ≡ before ++ left → others ≡ before' ++ right → AreDifferences first second lines others more
    → AreDifferences first second lines others
    (differences_of (meeting first second left right) (length lines - length left) (length others - length right)
    ++ more)
round_shown first second lines others before before' [] [] more e h all = all
round_shown first second lines others before before' [] (other ∷ rest) more e h all =
    (other_before_end others before' lines other rest h, all)
round_shown first second lines others before before' (line ∷ later) [] more e h all =
    (alone_before_end lines before others line later e, all)
round_shown first second lines others before before' (line ∷ later) (other ∷ rest) more e h all =
    meeting_shown first second lines others before before' line later other rest more
    (meet_lines first second line later other rest) e h refl all

along_shown : (rounds : ℕ) (first second : List ℕ) (lines others before before' left right : List Line)
    → lines ≡ before ++ left → others ≡ before' ++ right
    → AreDifferences first second lines others
    (differences_along rounds first second left right (length lines) (length others))
along_shown zero first second lines others before before' left right e h = tt
along_shown (suc rounds) first second lines others before before' left right e h =
    let m = meeting first second left right in
    let go = after_ends (first_pass m) left in
    let on = after_ends (second_pass m) right in
    round_shown first second lines others before before' left right _ e h
    (along_shown rounds first second lines others (before ++ go.0) (before' ++ on.0) (after_pass (first_pass m) left)
    (after_pass (second_pass m) right) (further lines before left go.0 (after_pass (first_pass m) left) e go.1)
    (further others before' right on.0 (after_pass (second_pass m) right) h on.1))

-- ---- what is shown in the end

or_outermost_shown : (first second : List ℕ) (lines others : List Line) (all : List Difference)
    → AreDifferences first second lines others all
    → AreDifferences first second lines others (or_outermost all) ⊎ (or_outermost all ≡ outermost)
or_outermost_shown first second lines others [] h = inr refl
or_outermost_shown first second lines others (difference ∷ more) h = inl h

pub what_is_shown_differs : WhatIsShownDiffers
unfolding differences
what_is_shown_differs first second lines others =
    or_outermost_shown first second lines others _
    (along_shown (length lines + length others) first second lines others [] [] lines others refl refl)

some_or_outermost : (all : List Difference)
    → (difference : Difference) × (more : List Difference) × (or_outermost all ≡ difference ∷ more)
some_or_outermost [] = (record { first = Some 0; second = Some 0 }, [], refl)
some_or_outermost (difference ∷ more) = (difference, more, refl)

pub some_is_shown : SomeIsShown
unfolding differences
some_is_shown first second lines others = some_or_outermost _
