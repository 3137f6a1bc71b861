-- Which elements of two documents differ, by the lists of the elements of their DER encodings.
use Rattle.std.specs.Prelude.{Bool, List, None, Option, Some, [], codes, cond, false, length, nat_le, nat_lt, not, slice_range, suc, true, zero, ℕ, ◌&&◌, ◌+◌, ◌++◌, ◌-◌, ◌==◌, ◌||◌, ◌∷◌}
use Rattle.std.specs.Str.{bytes_eq}
use Rattle.x690.specs.Layouts.{same_tag}
use Rattle.asn_names.specs.declared.element.Step.{Step}
use Rattle.asn_names.specs.declared.element.Step.TheVariants.{Field, Member, Outermost, Outside, Segment}
use Rattle.reports.specs.declared.report.Line.{Line}
use Rattle.reports.specs.declared.report.Value.{Value}
use Rattle.reports.specs.declared.report.Value.TheVariants.{NotShown, Size}
use Rattle.comparison.specs.declared.difference_list.Difference.{Difference}
use Rattle.comparison.specs.declared.difference_list.Meeting.{Meeting}
use Rattle.comparison.specs.declared.difference_list.Meeting.TheVariants.{Differ, Ended, Equal, First, Inside, Second}
use Rattle.comparison.specs.declared.difference_list.Pass.{Pass}
use Rattle.comparison.specs.declared.difference_list.Pass.TheVariants.{One, Stay, Whole}

-- the octets from a place to an end; none where they aren't there
abbrev pub octets_to : List ℕ → ℕ → Option ℕ → List ℕ
octets_to octets at None = []
octets_to octets at (Some end) =
    cond (nat_le at end && nat_le end (length octets)) (slice_range octets at end) []

-- the octets of an element, its header too
abbrev pub octets_of : List ℕ → Line → List ℕ
octets_of encoding line = octets_to encoding line.at line.end

abbrev pub same_octets : List ℕ → List ℕ → Line → Line → Bool
same_octets first second line other = bytes_eq (octets_of first line) (octets_of second other)

abbrev pub is_outermost : Step → Bool
is_outermost Outermost = true
is_outermost step = false

abbrev pub is_outside : Step → Bool
is_outside Outside = true
is_outside step = false

abbrev pub is_field : List ℕ → Step → Bool
is_field name (Field other) = bytes_eq name other.now
is_field name step = false

abbrev pub is_member : ℕ → Step → Bool
is_member number (Member other) = number == other
is_member number step = false

abbrev pub is_segment : ℕ → Step → Bool
is_segment number (Segment other) = number == other
is_segment number step = false

-- they are one field, or members of one number
abbrev pub same_step : Step → Step → Bool
same_step Outermost other = is_outermost other
same_step (Field name) other = is_field name.now other
same_step (Member number) other = is_member number other
same_step (Segment number) other = is_segment number other
same_step Outside other = is_outside other

-- such a field is among the lines up to the end of a container
abbrev pub follows : Step → ℕ → List Line → Bool
follows step depth [] = false
follows step depth (line ∷ lines) =
    cond (nat_lt line.depth depth) false
    (cond ((line.depth == depth) && same_step step line.step) true (follows step depth lines))

-- the lines after an element are of what is in it
abbrev pub has_inner : ℕ → List Line → Bool
has_inner depth [] = false
has_inner depth (next ∷ lines) = nat_lt depth next.depth

-- what differs can be shown inside: both have something in them, or one has and both are containers
abbrev pub opens : Bool → Bool → Bool → Bool
opens inner other constructed = (inner && other) || (constructed && (inner || other))

-- no more than their number is shown of contents
abbrev pub is_size_alone : Value → Bool
is_size_alone NotShown = true
is_size_alone (Size octets) = true
is_size_alone value = false

-- the values of an attribute
abbrev pub is_values : Step → Bool
is_values (Field name) = bytes_eq name.now (codes "values")
is_values step = false

-- An element is the values of an attribute, and those are private: the lines after it begin with one of which no more
-- than a number is shown.
abbrev pub are_private_values : Line → List Line → Bool
are_private_values line [] = false
are_private_values line (next ∷ lines) =
    is_values line.step && (nat_lt line.depth next.depth && is_size_alone next.value)

-- How two elements meet that are one field. Into private values nothing goes: their order in DER says something of
-- their octets.
abbrev pub meet_field : List ℕ → List ℕ → Line → List Line → Line → List Line → Meeting
meet_field first second line later other others =
    cond (same_tag line.tag other.tag
    && opens (has_inner line.depth later) (has_inner other.depth others) (line.constructed && other.constructed)
    && not (are_private_values line later || are_private_values other others))
    Inside
    (cond (same_octets first second line other) Equal Differ)

-- How two elements meet. The deeper one has no counterpart, since the other container has ended. Of two fields the one
-- that comes later in the other container isn't alone, so that what is there now is.
abbrev pub meet_lines : List ℕ → List ℕ → Line → List Line → Line → List Line → Meeting
meet_lines first second line later other others =
    cond (nat_lt other.depth line.depth) First
    (cond (nat_lt line.depth other.depth) Second
    (cond (same_step line.step other.step) (meet_field first second line later other others)
    (cond (follows line.step line.depth others) Second First)))

abbrev pub meeting : List ℕ → List ℕ → List Line → List Line → Meeting
meeting first second [] [] = Ended
meeting first second [] (other ∷ others) = Second
meeting first second (line ∷ later) [] = First
meeting first second (line ∷ later) (other ∷ others) = meet_lines first second line later other others

-- what a meeting of the lines of these numbers shows
abbrev pub differences_of : Meeting → ℕ → ℕ → List Difference
differences_of Ended number other = []
differences_of First number other = record { first = Some number; second = None } ∷ []
differences_of Second number other = record { first = None; second = Some other } ∷ []
differences_of Inside number other = []
differences_of Equal number other = []
differences_of Differ number other = record { first = Some number; second = Some other } ∷ []

abbrev pub first_pass : Meeting → Pass
first_pass Ended = Stay
first_pass First = Whole
first_pass Second = Stay
first_pass Inside = One
first_pass Equal = Whole
first_pass Differ = Whole

abbrev pub second_pass : Meeting → Pass
second_pass Ended = Stay
second_pass First = Stay
second_pass Second = Whole
second_pass Inside = One
second_pass Equal = Whole
second_pass Differ = Whole

-- the lines after those that are deeper
abbrev pub deeper : ℕ → List Line → List Line
deeper depth [] = []
deeper depth (line ∷ lines) = cond (nat_le line.depth depth) (line ∷ lines) (deeper depth lines)

-- the lines after those that go by: none, the next one, or that and those of what is in it
abbrev pub after_pass : Pass → List Line → List Line
after_pass pass [] = []
after_pass Stay (line ∷ lines) = line ∷ lines
after_pass One (line ∷ lines) = lines
after_pass Whole (line ∷ lines) = deeper line.depth lines

-- Meeting after meeting, so many, up to the ends of both lists, which have so many lines.
abbrev pub differences_along : ℕ → List ℕ → List ℕ → List Line → List Line → ℕ → ℕ → List Difference
differences_along zero first second left right count other_count = []
differences_along (suc rounds) first second left right count other_count =
    differences_of (meeting first second left right) (count - length left) (other_count - length right)
    ++ differences_along rounds first second (after_pass (first_pass (meeting first second left right)) left)
    (after_pass (second_pass (meeting first second left right)) right) count other_count

-- the outermost elements, where no others differ
abbrev pub or_outermost : List Difference → List Difference
or_outermost [] = record { first = Some 0; second = Some 0 } ∷ []
or_outermost (difference ∷ more) = difference ∷ more

-- The elements that differ, in the order of the DER encodings, by all lines of both.
unfoldable pub differences : List ℕ → List ℕ → List Line → List Line → List Difference
differences first second lines others =
    or_outermost
    (differences_along (length lines + length others) first second lines others (length lines) (length others))
