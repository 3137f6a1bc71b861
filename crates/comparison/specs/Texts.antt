-- What two documents are to each other, in lines.
use Rattle.std.specs.Prelude.{List, None, Option, Some, [], codes, cond, decimal, flat_map, ℕ, ◌++◌, ◌==◌, ◌∷◌}
use Rattle.tlv_core.specs.declared.fault.Fault.{Fault}
use Rattle.reports.specs.Reports.{inside_said}
use Rattle.reports.specs.Words.{place_said}
use Rattle.reports.specs.Texts.{line_feed}
use Rattle.comparison.specs.DifferenceWords.{DifferenceWords}

abbrev pub same_line : List ℕ
same_line = codes "the same document" ++ line_feed

-- a document that is refused by its name, and its fault as `check` writes it
abbrev pub fault_line : List ℕ → Option Fault → List ℕ
fault_line name None = []
fault_line name (Some fault) =
    name ++ codes ": fault at " ++ place_said fault.at fault.why ++ inside_said fault.inside ++ line_feed

-- a line for each document that is refused
unfoldable pub refused_text : List ℕ → List ℕ → Option Fault → Option Fault → List ℕ
refused_text name other_name fault other = fault_line name fault ++ fault_line other_name other

abbrev pub field_after : DifferenceWords → List ℕ
field_after words = codes ", " ++ words.field

-- the fields that differ, a comma between each two
abbrev pub fields_said : List DifferenceWords → List ℕ
fields_said [] = []
fields_said (words ∷ more) = words.field ++ flat_map field_after more

-- how many more fields differ, where more do
abbrev pub more_said : ℕ → List ℕ
more_said more = cond (more == 0) [] (codes " and " ++ decimal more ++ codes " more")

-- a value in the document of this name
unfoldable pub side_line : List ℕ → List ℕ → List ℕ
side_line name value = codes "  " ++ name ++ codes ": " ++ value ++ line_feed

abbrev pub difference_lines : List ℕ → List ℕ → DifferenceWords → List ℕ
difference_lines name other_name words = side_line name words.first ++ side_line other_name words.second

-- The fields that differ, how many more do, and under that the values of each field, a line for each document.
unfoldable pub another_text : List ℕ → List ℕ → List DifferenceWords → ℕ → List ℕ
another_text name other_name words more =
    codes "another document: " ++ fields_said words ++ more_said more ++ line_feed
    ++ flat_map (difference_lines name other_name) words
