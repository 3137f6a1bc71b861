-- The line of a fault, where no other line shows the element there.
use Rattle.std.specs.Prelude.{Bool, List, None, Option, Some, [], cond, false, true, ℕ, ◌+◌, ◌++◌, ◌&&◌, ◌||◌, ◌==◌, ◌∷◌, ◌≡◌}
use Rattle.std.specs.Option.{is_none, is_some}
use Rattle.asn_names.specs.declared.element.Step.TheVariants.{Outside}
use Rattle.tlv_core.specs.declared.reason.Reason.{Reason}
use Rattle.tlv_core.specs.declared.reason.Reason.TheVariants as reasons
use Rattle.x690.specs.Layouts.{universal}
use Rattle.reports.specs.declared.report.Answer.{Answer}
use Rattle.reports.specs.declared.report.Answer.TheVariants.{Der, NotDer, Refused}
use Rattle.reports.specs.declared.report.Line.{Line}
use Rattle.reports.specs.declared.report.Value.TheVariants.{NotShown}

-- no element is at the fault
abbrev pub is_between : Reason → Bool
is_between reasons.Missing = true
is_between reasons.Truncated = true
is_between reasons.Trailing = true
is_between _ = false

-- a line is of the file's element at a place
abbrev pub is_at : ℕ → Line → Bool
is_at at line = (line.at == at) && is_none line.inside

-- the number of the first of the lines, counted from here, that is of the file's element at this place
abbrev pub line_from : ℕ → ℕ → List Line → Option ℕ
line_from at number [] = None
line_from at number (line ∷ lines) = cond (is_at at line) (Some number) (line_from at (number + 1) lines)

abbrev pub line_at : List Line → ℕ → Option ℕ
line_at lines at = line_from at 0 lines

-- The line shows a place, so deep, and nothing else.
pub record IsPlaceAlone (place depth : ℕ) (line : Line) : Type 0 where
  pub place_is : line.at ≡ place
  pub inside : line.inside ≡ None
  pub depth_is : line.depth ≡ depth
  pub around : line.around ≡ 0
  pub step : line.step ≡ Outside
  pub type_name : line.type_name.now ≡ []
  pub tag : line.tag ≡ universal 16
  pub constructed : line.constructed ≡ false
  pub length : line.length ≡ None
  pub end : line.end ≡ None
  pub value : line.value ≡ NotShown
  pub cause : line.cause ≡ None
  pub carries : line.carries ≡ None

abbrev pub AddsPlace : Bool → ℕ → ℕ → List Line → List Line → Type 0
AddsPlace true place depth old new = new ≡ old
AddsPlace false place depth old new = (line : Line) × (new ≡ old ++ (line ∷ [])) × IsPlaceAlone place depth line

-- Of a document that is refused at an element that no line shows: one line more, of its place alone.
abbrev pub AddsFault : Answer → ℕ → List Line → List Line → Type 0
AddsFault Der depth old new = new ≡ old
AddsFault (NotDer place) depth old new = new ≡ old
AddsFault (Refused fault) depth old new =
    AddsPlace (is_between fault.why || is_some (line_at old fault.at)) fault.at depth old new
