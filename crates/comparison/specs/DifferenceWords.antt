-- What is shown of the elements that differ.
use Rattle.std.specs.Prelude.{List, None, Option, Some, codes, drop, string_bytes, ℕ}
use Rattle.reports.specs.declared.report.Line.{Line}
use Rattle.comparison.specs.Said.{field_said, value_said}
use Rattle.comparison.specs.declared.difference_text.DifferenceText.{DifferenceText}
use Rattle.comparison.specs.declared.difference_list.Difference.{Difference}

-- a field, and its value in each document
pub record DifferenceWords : Type 0 where
  pub field : List ℕ
  pub first : List ℕ
  pub second : List ℕ

abbrev pub words_of : DifferenceText → DifferenceWords
words_of shown =
    record { field = string_bytes shown.field; first = string_bytes shown.first; second = string_bytes shown.second }

-- the field of an element that differs, by its line in the first document, else in the second one
abbrev pub field_by : List ℕ → List Line → List Line → Option ℕ → Option ℕ → List ℕ
field_by root lines others None None = root
field_by root lines others None (Some number) = field_said root others number
field_by root lines others (Some number) other = field_said root lines number

abbrev pub difference_field : List ℕ → List Line → List Line → Difference → List ℕ
difference_field root lines others difference = field_by root lines others difference.first difference.second

-- the value in a document of the element whose line has this number
abbrev pub side_value : List Line → Option ℕ → List ℕ
side_value lines None = codes "absent"
side_value lines (Some number) = value_said (drop number lines)

-- What is shown of an element that differs.
abbrev pub said_of : List ℕ → List Line → List Line → Difference → DifferenceWords
said_of root lines others difference = record {
  field = difference_field root lines others difference;
  first = side_value lines difference.first;
  second = side_value others difference.second;
}
