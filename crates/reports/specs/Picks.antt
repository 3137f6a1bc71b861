-- Which lines of a listing are picked, the path to a line, and of which line the place alone is shown.
use Rattle.std.specs.Prelude.{Bool, List, None, Option, Some, [], cond, false, is_some, length, nat_le, nat_lt, slice_get, suc, take, true, zero, ℕ, ◌&&◌, ◌+◌, ◌++◌, ◌-◌, ◌==◌, ◌||◌, ◌∷◌}
use Rattle.asn_names.specs.declared.element.Step.{Step}
use Rattle.asn_names.specs.declared.element.Step.TheVariants.{Outside}
use Rattle.reports.specs.declared.picks.PickState.{PickState}
use Rattle.reports.specs.declared.picks.Pick.{Pick}
use Rattle.reports.specs.declared.picks.Pick.TheVariants.{Causes, Fault}
use Rattle.reports.specs.declared.picks.Picking.{Picking}
use Rattle.reports.specs.declared.report.Line.{Line}
use Rattle.reports.specs.declared.report.Value.{Value}
use Rattle.reports.specs.declared.report.Value.TheVariants.{NotShown}

-- whether the path to a line that is at fault or not in DER ends at this one
abbrev pub ends_path : Pick → ℕ → ℕ → Line → Bool
ends_path Causes skip number line = is_some line.cause && (skip == 0)
ends_path (Fault fault) skip number line = number == fault

-- whether a line is picked that nothing picked may be in: the first 4, that at fault and the 6 before it
abbrev pub is_beside : Pick → ℕ → Bool
is_beside Causes number = false
is_beside (Fault fault) number = nat_lt number 4 || (nat_le number fault && nat_lt (fault - number) 7)

-- A line is on the path where it is the one around a line after it that is so, or where a path ends at it. It is picked
-- where it is on the path, or beside that; the line around it is then the next on the path.
abbrev pub judge_line : Pick → PickState → ℕ → Line → Picking
judge_line pick state number line =
    let on_path = (state.around == number) || ends_path pick state.skip number line in
    record {
      state = record {
        around = cond on_path line.around state.around;
        skip = cond (is_some line.cause) (state.skip - 1) state.skip;
      };
      picked = on_path || is_beside pick number;
    }

-- what is known before the lines from this number on, of which the last one is looked at first
abbrev pub state_from : Pick → PickState → ℕ → List Line → PickState
state_from pick start number [] = start
state_from pick start number (line ∷ lines) =
    (judge_line pick (state_from pick start (number + 1) lines) number line).state

-- the numbers of the lines that are picked of these, the first of which has this number
abbrev pub numbers_from : Pick → PickState → ℕ → List Line → List ℕ
numbers_from pick start number [] = []
numbers_from pick start number (line ∷ lines) =
    cond (judge_line pick (state_from pick start (number + 1) lines) number line).picked
    (number ∷ numbers_from pick start (number + 1) lines) (numbers_from pick start (number + 1) lines)

-- nothing is known after the last line
abbrev pub start_of : List Line → ℕ → PickState
start_of lines skip = record { around = length lines; skip = skip }

-- how many lines aren't in DER
abbrev pub causes : List Line → ℕ
causes [] = 0
causes (line ∷ lines) = cond (is_some line.cause) 1 0 + causes lines

-- how many lines come before the first that isn't in DER; all where there is none
abbrev pub first_cause : List Line → ℕ
first_cause [] = 0
first_cause (line ∷ lines) = cond (is_some line.cause) 0 (1 + first_cause lines)

-- the step to this line, after the path to the line around it
abbrev pub steps_with : (ℕ → List Step) → ℕ → Option Line → List Step
steps_with path number None = []
steps_with path number (Some line) = cond (nat_lt line.around number) (path line.around) [] ++ line.step ∷ []

-- the last steps of the path to the line of this number, so many at most
abbrev pub steps_to : ℕ → List Line → ℕ → List Step
steps_to zero lines number = []
steps_to (suc most) lines number = steps_with (λ around. steps_to most lines around) number (slice_get lines number)

-- the path to the line of this number; no document is read that has more than 200 elements around one
unfoldable pub path_to_line : List Line → ℕ → List Step
path_to_line lines number = steps_to 200 lines number

-- contents of which nothing is shown, nor their number
abbrev pub is_not_shown : Value → Bool
is_not_shown NotShown = true
is_not_shown value = false

-- whether the place of an element is all that is shown of it
abbrev pub is_place_alone : Step → Value → Bool
is_place_alone Outside value = is_not_shown value
is_place_alone step value = false

-- up to so many
abbrev pub first_ones : {A : Type 0} → ℕ → List A → List A
first_ones most items = cond (nat_lt most (length items)) (take most items) items
