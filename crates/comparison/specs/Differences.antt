-- What comparing the lists of two documents shows of an element.
use Rattle.std.specs.Prelude.{Bool, List, None, Option, Some, [], false, length, slice_get, ℕ, ◌&&◌, ◌++◌, ◌-◌, ◌<◌, ◌==◌, ◌∷◌, ◌≡◌, ◌≢◌, ◌⊎◌, true}
use Rattle.asn_names.specs.declared.element.Step.{Step}
use Rattle.reports.specs.declared.report.Line.{Line}
use Rattle.comparison.specs.DifferenceLists.{are_private_values, deeper, differences, octets_of, same_step}
use Rattle.comparison.specs.declared.difference_list.Difference.{Difference}

-- Two elements that are one field, as deep in their documents, and have other octets.
pub record ArePair (first second : List ℕ) (lines others : List Line) (number other_number : ℕ) : Type 0 where
  pub line : Line
  pub other : Line
  pub listed : slice_get lines number ≡ Some line
  pub other_listed : slice_get others other_number ≡ Some other
  pub field : same_step line.step other.step ≡ true
  pub depth : line.depth ≡ other.depth
  pub octets : octets_of first line ≢ octets_of second other

-- the next of the lines is one of this depth that passes a test of its step
abbrev pub is_next_of : (Step → Bool) → ℕ → List Line → Bool
is_next_of test depth [] = false
is_next_of test depth (line ∷ lines) = (line.depth == depth) && test line.step

-- An element of one document that has no counterpart: where the comparison is in the list of the other one, the next
-- element isn't this field, or isn't as deep.
pub record IsAlone (is_field : Step → Step → Bool) (lines others : List Line) (number : ℕ) : Type 0 where
  pub line : Line
  pub before : List Line
  pub after : List Line
  pub listed : slice_get lines number ≡ Some line
  pub place : others ≡ before ++ after
  pub none : is_next_of (is_field line.step) line.depth after ≡ false

abbrev pub is_of_field : Step → Step → Bool
is_of_field step other = same_step other step

abbrev pub IsDifferenceBy : List ℕ → List ℕ → List Line → List Line → Option ℕ → Option ℕ → Type 0
IsDifferenceBy first second lines others None None = ⊥
IsDifferenceBy first second lines others None (Some number) = IsAlone is_of_field others lines number
IsDifferenceBy first second lines others (Some number) None = IsAlone same_step lines others number
IsDifferenceBy first second lines others (Some number) (Some other_number) =
    ArePair first second lines others number other_number

-- each is a pair of elements that differ, or an element without a counterpart
abbrev pub AreDifferences : List ℕ → List ℕ → List Line → List Line → List Difference → Type 0
AreDifferences first second lines others [] = Unit {0}
AreDifferences first second lines others (difference ∷ more) =
    IsDifferenceBy first second lines others difference.first difference.second
    × AreDifferences first second lines others more

-- the outermost elements and nothing else
abbrev pub outermost : List Difference
outermost = record { first = Some 0; second = Some 0 } ∷ []

-- What is shown to differ does; where no element is found that does, the outermost ones are shown.
abbrev pub WhatIsShownDiffers : Type 0
WhatIsShownDiffers =
    (first second : List ℕ) (lines others : List Line)
    → AreDifferences first second lines others (differences first second lines others)
    ⊎ (differences first second lines others ≡ outermost)

-- At least one element is shown.
abbrev pub SomeIsShown : Type 0
SomeIsShown =
    (first second : List ℕ) (lines others : List Line)
    → (difference : Difference) × (more : List Difference)
    × (differences first second lines others ≡ difference ∷ more)

-- The line of this number is of what is in private values of an attribute: it comes after theirs, and before all that
-- isn't deeper than they are.
pub record IsInPrivateValues (lines : List Line) (number : ℕ) : Type 0 where
  pub before : List Line
  pub line : Line
  pub later : List Line
  pub place : lines ≡ before ++ line ∷ later
  pub private : are_private_values line later ≡ true
  pub after : length before < number
  pub inside : number < length lines - length (deeper line.depth later)

abbrev pub IsInNone : List Line → Option ℕ → Type 0
IsInNone lines None = Unit {0}
IsInNone lines (Some number) = IsInPrivateValues lines number → ⊥

abbrev pub AreInNone : List Line → List Line → List Difference → Type 0
AreInNone lines others [] = Unit {0}
AreInNone lines others (difference ∷ more) =
    IsInNone lines difference.first × IsInNone others difference.second × AreInNone lines others more

-- Nothing that is in private values of an attribute is shown by itself.
abbrev pub PrivateValuesAreShownTogether : Type 0
PrivateValuesAreShownTogether =
    (first second : List ℕ) (lines others : List Line)
    → AreInNone lines others (differences first second lines others)
