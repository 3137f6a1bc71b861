-- Nothing is shown that is in private values of an attribute.
use Rattle.std.proofs.Common.{Bool, List, [], ap, arith, cond, false, length, length-append, not, refl, suc, sym, true, zero, ℕ, ◌&&◌, ◌++◌, ◌-◌, ◌≤◌, ◌∙◌, ◌∷◌, ◌≡◌, ◌||◌, nat_le, nat_lt, ◌+◌, ⊎_elim}
use Rattle.std.proofs.lemmas.Bool.{cases_lt, false≢true}
use Rattle.std.proofs.lemmas.Bool.Decides.{nat_tests}
use Rattle.x690.specs.Layouts.{same_tag}
use Rattle.reports.specs.declared.report.Line.{Line}
use Rattle.comparison.proofs.DifferenceLaws.{after_ends, further}
use Rattle.comparison.specs.Differences.{AreInNone, IsInPrivateValues, PrivateValuesAreShownTogether}
use Rattle.comparison.specs.DifferenceLists.{after_pass, are_private_values, deeper, differences, differences_along, differences_of, first_pass, follows, has_inner, meet_field, meeting, opens, or_outermost, same_octets, same_step, second_pass}
use Rattle.comparison.specs.declared.difference_list.Difference.{Difference}
use Rattle.comparison.specs.declared.difference_list.Meeting.{Meeting}
use Rattle.comparison.specs.declared.difference_list.Meeting.TheVariants.{Differ, Ended, Equal, First, Inside, Second}
use Rattle.comparison.specs.declared.difference_list.Pass.{Pass}
use Rattle.comparison.specs.declared.difference_list.Pass.TheVariants.{One, Stay, Whole}

-- ---- the first of some lines, and those after it

abbrev first_depth : List Line → ℕ
first_depth [] = 0
first_depth (line ∷ lines) = line.depth

abbrev after_first : List Line → List Line
after_first [] = []
after_first (line ∷ lines) = lines

abbrev first_is_private : List Line → Bool
first_is_private [] = false
first_is_private (line ∷ lines) = are_private_values line lines

-- ---- how many lines come after those that are deeper

deeper_fewer : (depth : ℕ) (lines : List Line) → length (deeper depth lines) ≤ length lines
deeper_fewer depth [] = omega arith
deeper_fewer depth (line ∷ lines) =
    elim (nat_le line.depth depth) as
    (λ b. length (cond b (line ∷ lines) (deeper depth lines)) ≤ length (line ∷ lines)) [
      | true ↦ omega arith
      | false ↦ omega (arith, deeper_fewer depth lines)
    ]

fewer_by : (a b : Bool) (line : Line) (lines rest more : List Line) → (a ≡ true → b ≡ true)
    → length rest ≤ length lines → length rest ≤ length more
    → length (cond a (line ∷ lines) rest) ≤ length (cond b (line ∷ lines) more)
fewer_by true true line lines rest more h k l = omega arith
fewer_by true false line lines rest more h k l = absurd (false≢true (h refl))
fewer_by false true line lines rest more h k l = omega (arith, k)
fewer_by false false line lines rest more h k l = l

not_below : (n d e : ℕ) → d ≤ e → nat_le n d ≡ true → nat_le n e ≡ true
not_below n d e h k = grind (arith, nat_tests, h, k)

above : (n d : ℕ) → nat_le n d ≡ false → d ≤ n
above n d h = grind (arith, nat_tests, h)

deeper_more : (d e : ℕ) (lines : List Line) → d ≤ e → length (deeper d lines) ≤ length (deeper e lines)
deeper_more d e [] h = omega arith
deeper_more d e (line ∷ lines) h =
    fewer_by (nat_le line.depth d) (nat_le line.depth e) line lines (deeper d lines) (deeper e lines)
    (not_below line.depth d e h) (deeper_fewer d lines) (deeper_more d e lines h)

passes_by : (depth : ℕ) (first : Line) (lines before : List Line) (line : Line) (later : List Line)
    → first ∷ lines ≡ before ++ line ∷ later → nat_le first.depth depth ≡ false
    → ((before' : List Line) → lines ≡ before' ++ line ∷ later
    → length (deeper depth lines) ≤ length (deeper line.depth later))
    → length (deeper depth lines) ≤ length (deeper line.depth later)
passes_by depth first lines [] line later e f rest =
    let same = ap after_first e in
    let level : first.depth ≡ line.depth = ap first_depth e in
    let high = above first.depth depth f in
    omega (
      arith,
      ap (λ ls. length (deeper depth ls)) same,
      deeper_more depth line.depth later (omega (arith, level, high)),
    )
passes_by depth first lines (it ∷ before) line later e f rest = rest before (ap after_first e)

-- What is in an element that goes by with what is around it goes by, too.
deeper_passes : (depth : ℕ) (lines before : List Line) (line : Line) (later : List Line)
    → lines ≡ before ++ line ∷ later → length (deeper depth lines) ≤ length later
    → length (deeper depth lines) ≤ length (deeper line.depth later)
deeper_passes depth [] before line later e h =
    absurd (omega (arith, ap length e, length-append before (line ∷ later)))
deeper_passes depth (first ∷ lines) before line later e h =
    elim (nat_le first.depth depth) as
    (λ b. nat_le first.depth depth ≡ b → length (cond b (first ∷ lines) (deeper depth lines)) ≤ length later
    → length (cond b (first ∷ lines) (deeper depth lines)) ≤ length (deeper line.depth later)) [
      | true ↦ λ t few. absurd (omega (arith, few, ap length e, length-append before (line ∷ later)))
      | false ↦ λ f few.
          passes_by depth first lines before line later e f
          (λ before' e'. deeper_passes depth lines before' line later e' few)
    ] refl h

-- ---- where lines are in a list

split_after : (before before' rest rest' : List Line) → before ++ rest ≡ before' ++ rest'
    → length before ≤ length before' → (between : List Line) × (rest ≡ between ++ rest')
split_after [] before' rest rest' e h = (before', e)
split_after (it ∷ before) [] rest rest' e h = absurd (omega (arith, h))
split_after (it ∷ before) (it' ∷ before') rest rest' e h =
    split_after before before' rest rest' (ap after_first e) (omega (arith, h))

nothing_between : (between rest rest' : List Line) → rest ≡ between ++ rest' → length between ≡ 0 → rest ≡ rest'
nothing_between [] rest rest' e none = e
nothing_between (it ∷ between) rest rest' e none = absurd (omega (arith, none))

-- ---- the next of the lines that are left isn't in private values

abbrev IsFree : List Line → List Line → Type 0
IsFree lines left = IsInPrivateValues lines (length lines - length left) → ⊥

free_from_start : (lines : List Line) → IsFree lines lines
free_from_start lines p = omega (arith, p.after)

-- values that stood before the place are those of an earlier one
earlier : (lines before : List Line) (line : Line) (later left : List Line) → lines ≡ before ++ line ∷ later
    → length left ≤ length later → IsFree lines (line ∷ later)
    → (p : IsInPrivateValues lines (length lines - length left)) → suc (length p.before) ≤ length before → ⊥
earlier lines before line later left e fewer free p less =
    let whole = ap length e in
    let count = length-append before (line ∷ later) in
    free (
    record {
      before = p.before;
      line = p.line;
      later = p.later;
      place = p.place;
      private = p.private;
      after = omega (arith, whole, count, less);
      inside = omega (arith, whole, count, fewer, p.inside);
    }
    )

past_one : (lines before : List Line) (line : Line) (later : List Line) → lines ≡ before ++ line ∷ later
    → are_private_values line later ≡ false → IsFree lines (line ∷ later) → IsFree lines later
past_one lines before line later e public free p =
    ⊎_elim (λ less. earlier lines before line later later e (omega arith) free p (omega (arith, less)))
    (λ more.
    let s = split_after before p.before (line ∷ later) (p.line ∷ p.later) (sym e ∙ p.place) (omega (arith, more)) in
    let whole = ap length e in
    let count = length-append before (line ∷ later) in
    let whole' = ap length p.place in
    let count' = length-append p.before (p.line ∷ p.later) in
    let parts = ap length s.1 in
    let joined = length-append s.0 (p.line ∷ p.later) in
    let none : length s.0 ≡ 0 = omega (arith, whole, count, whole', count', parts, joined, p.after) in
    let same = nothing_between s.0 (line ∷ later) (p.line ∷ p.later) s.1 none in
    false≢true (sym public ∙ ap first_is_private same ∙ p.private))
    (cases_lt (length p.before) (length before))

whole_passes : (between : List Line) (line : Line) (later : List Line) (line' : Line) (later' : List Line)
    → line ∷ later ≡ between ++ line' ∷ later' → length (deeper line.depth later) ≤ length later'
    → length (deeper line.depth later) ≤ length (deeper line'.depth later')
whole_passes [] line later line' later' e few =
    omega (arith, ap (λ ls. length (deeper (first_depth ls) (after_first ls))) e)
whole_passes (it ∷ between) line later line' later' e few =
    deeper_passes line.depth later between line' later' (ap after_first e) few

past_whole : (lines before : List Line) (line : Line) (later : List Line) → lines ≡ before ++ line ∷ later
    → IsFree lines (line ∷ later) → IsFree lines (deeper line.depth later)
past_whole lines before line later e free p =
    ⊎_elim
    (λ less.
    earlier lines before line later (deeper line.depth later) e (deeper_fewer line.depth later) free p
    (omega (arith, less)))
    (λ more.
    let s = split_after before p.before (line ∷ later) (p.line ∷ p.later) (sym e ∙ p.place) (omega (arith, more)) in
    let whole = ap length p.place in
    let count = length-append p.before (p.line ∷ p.later) in
    let few : length (deeper line.depth later) ≤ length p.later = omega (arith, whole, count, p.after) in
    let passed = whole_passes s.0 line later p.line p.later s.1 few in omega (arith, passed, p.inside))
    (cases_lt (length p.before) (length before))

past : (pass : Pass) (lines before left : List Line) → lines ≡ before ++ left
    → (pass ≡ One → first_is_private left ≡ false) → IsFree lines left → IsFree lines (after_pass pass left)
past Stay lines before [] e public free = free
past One lines before [] e public free = free
past Whole lines before [] e public free = free
past Stay lines before (line ∷ later) e public free = free
past One lines before (line ∷ later) e public free = past_one lines before line later e (public refl) free
past Whole lines before (line ∷ later) e public free = past_whole lines before line later e free

-- ---- into private values nothing goes

inside_met : (deeper shallower same later : Bool) (m : Meeting)
    → cond deeper First (cond shallower Second (cond same m (cond later Second First))) ≡ Inside → m ≡ Inside
inside_met true shallower same later m e = absurd (cc)
inside_met false true same later m e = absurd (cc)
inside_met false false true later m e = e
inside_met false false false true m e = absurd (cc)
inside_met false false false false m e = absurd (cc)

field_opens : (into same : Bool) → cond into Inside (cond same Equal Differ) ≡ Inside → into ≡ true
field_opens true same e = refl
field_opens false true e = absurd (cc)
field_opens false false e = absurd (cc)

both_public : (tags opened one other : Bool) → (tags && opened && not (one || other)) ≡ true
    → (one ≡ false) × (other ≡ false)
both_public false opened one other e = absurd (false≢true e)
both_public true false one other e = absurd (false≢true e)
both_public true true true other e = absurd (false≢true e)
both_public true true false true e = absurd (false≢true e)
both_public true true false false e = (refl, refl)

inside_is_public : (first second : List ℕ) (left right : List Line) → meeting first second left right ≡ Inside
    → (first_is_private left ≡ false) × (first_is_private right ≡ false)
inside_is_public first second [] [] e = absurd (cc)
inside_is_public first second [] (other ∷ rest) e = absurd (cc)
inside_is_public first second (line ∷ later) [] e = absurd (cc)
inside_is_public first second (line ∷ later) (other ∷ rest) e =
    both_public (same_tag line.tag other.tag)
    (opens (has_inner line.depth later) (has_inner other.depth rest) (line.constructed && other.constructed))
    (are_private_values line later) (are_private_values other rest)
    (field_opens _ (same_octets first second line other)
    (inside_met (nat_lt other.depth line.depth) (nat_lt line.depth other.depth) (same_step line.step other.step)
    (follows line.step line.depth rest) (meet_field first second line later other rest) e))

one_of_first : (m : Meeting) → first_pass m ≡ One → m ≡ Inside
one_of_first Ended e = absurd (cc)
one_of_first First e = absurd (cc)
one_of_first Second e = absurd (cc)
one_of_first Inside e = refl
one_of_first Equal e = absurd (cc)
one_of_first Differ e = absurd (cc)

one_of_second : (m : Meeting) → second_pass m ≡ One → m ≡ Inside
one_of_second Ended e = absurd (cc)
one_of_second First e = absurd (cc)
one_of_second Second e = absurd (cc)
one_of_second Inside e = refl
one_of_second Equal e = absurd (cc)
one_of_second Differ e = absurd (cc)

-- ---- what is shown

shown_free : (lines others left right : List Line) (m : Meeting) (more : List Difference) → IsFree lines left
    → IsFree others right → AreInNone lines others more
    → AreInNone lines others (differences_of m (length lines - length left) (length others - length right) ++ more)
shown_free lines others left right Ended more free free' all = all
shown_free lines others left right First more free free' all = (free, tt, all)
shown_free lines others left right Second more free free' all = (tt, free', all)
shown_free lines others left right Inside more free free' all = all
shown_free lines others left right Equal more free free' all = all
shown_free lines others left right Differ more free free' all = (free, free', all)

along_free : (rounds : ℕ) (first second : List ℕ) (lines others before before' left right : List Line)
    → lines ≡ before ++ left → others ≡ before' ++ right → IsFree lines left → IsFree others right
    → AreInNone lines others (differences_along rounds first second left right (length lines) (length others))
along_free zero first second lines others before before' left right e h free free' = tt
along_free (suc rounds) first second lines others before before' left right e h free free' =
    let m = meeting first second left right in
    let go = after_ends (first_pass m) left in
    let on = after_ends (second_pass m) right in
    shown_free lines others left right m _ free free'
    (along_free rounds first second lines others (before ++ go.0) (before' ++ on.0) (after_pass (first_pass m) left)
    (after_pass (second_pass m) right) (further lines before left go.0 (after_pass (first_pass m) left) e go.1)
    (further others before' right on.0 (after_pass (second_pass m) right) h on.1)
    (past (first_pass m) lines before left e
    (λ one. (inside_is_public first second left right (one_of_first m one)).0) free)
    (past (second_pass m) others before' right h
    (λ one. (inside_is_public first second left right (one_of_second m one)).1) free'))

or_outermost_free : (lines others : List Line) (all : List Difference) → AreInNone lines others all
    → AreInNone lines others (or_outermost all)
or_outermost_free lines others [] h = (λ p. omega (arith, p.after), λ p. omega (arith, p.after), tt)
or_outermost_free lines others (difference ∷ more) h = h

pub private_values_are_shown_together : PrivateValuesAreShownTogether
unfolding differences
private_values_are_shown_together first second lines others =
    or_outermost_free lines others _
    (along_free (length lines + length others) first second lines others [] [] lines others refl refl
    (free_from_start lines) (free_from_start others))
