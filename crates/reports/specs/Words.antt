-- What is said of the element that is refused, and of what is due in its place.
use Rattle.std.specs.Prelude.{Bool, List, None, Option, Some, [], codes, cond, decimal, false, is_some, length, nat_lt, not, slice_get, true, ℕ, ◌&&◌, ◌+◌, ◌++◌, ◌-◌, ◌==◌}
use Rattle.tlv_core.specs.Reasons.{name_of}
use Rattle.tlv_core.specs.declared.fault.Fault.{Fault}
use Rattle.tlv_core.specs.declared.reason.Reason.{Reason}
use Rattle.tlv_core.specs.declared.reason.Reason.TheVariants as reasons
use Rattle.reports.specs.declared.report.Answer.{Answer}
use Rattle.reports.specs.declared.report.Answer.TheVariants.{Der, NotDer, Refused}
use Rattle.reports.specs.declared.report.Diagnosis.{Diagnosis}
use Rattle.reports.specs.declared.report.FaultContainer.{FaultContainer}
use Rattle.reports.specs.declared.report.Due.{Due}
use Rattle.reports.specs.declared.report.Due.TheVariants.{Fields, «Type», Unsaid}
use Rattle.reports.specs.declared.report.Found.{Found}
use Rattle.reports.specs.declared.report.Length.{Length}
use Rattle.reports.specs.declared.report.Line.{Line}
use Rattle.reports.specs.declared.report.Report.{Report}
use Rattle.reports.specs.declared.report.Value.{Value}
use Rattle.reports.specs.declared.report.Value.TheVariants as values
use Rattle.reports.specs.Paths.{path_text}
use Rattle.reports.specs.ReasonDue.{reason_due}
use Rattle.reports.specs.TypeWords.{fields_said, shape_said, tag_said}

-- a number of octets
abbrev pub sized : ℕ → List ℕ
sized octets = decimal octets ++ cond (octets == 1) (codes " octet") (codes " octets")

-- a place and a reason
unfoldable pub place_said : ℕ → Reason → List ℕ
place_said at why = decimal at ++ codes ": " ++ name_of why

-- two texts with a semicolon between them, where both say something
abbrev pub joined : List ℕ → List ℕ → List ℕ
joined first second =
    cond (length first == 0) second (cond (length second == 0) first (first ++ codes "; " ++ second))

-- the types that may be there
abbrev pub due_type_said : Due → List ℕ
due_type_said Unsaid = []
due_type_said (Fields fields) = fields_said fields.now
due_type_said («Type» shape) = shape_said shape.now

-- what the reason alone asks for; else a type
abbrev pub due_by : List ℕ → Due → List ℕ
due_by words due = cond (length words == 0) (due_type_said due) words

unfoldable pub due_of : List ℕ → Fault → Diagnosis → List ℕ
due_of kind fault diagnosis = due_by (reason_due kind fault) diagnosis.due

-- the same of a document that is judged so
abbrev pub due_judged : List ℕ → Answer → Option Diagnosis → List ℕ
due_judged kind (Refused fault) (Some diagnosis) = due_of kind fault diagnosis
due_judged kind (Refused fault) None = []
due_judged kind Der diagnosis = []
due_judged kind (NotDer at) diagnosis = []

abbrev pub due_said : Report → List ℕ
due_said report = due_judged report.kind.word.now report.answer report.diagnosis

-- what length octets say
abbrev pub contents_said : Option ℕ → List ℕ
contents_said (Some octets) = codes " of " ++ sized octets
contents_said None = codes " of indefinite length"

abbrev pub length_said : Option Length → List ℕ
length_said None = []
length_said (Some length) = contents_said length.contents

-- the number that a line shows
abbrev pub number_of : Value → Option ℕ
number_of (values.Number number) = Some number
number_of value = None

abbrev pub number_on : Option Line → Option ℕ
number_on None = None
number_on (Some line) = number_of line.value

abbrev pub number_at : List Line → Option ℕ → Option ℕ
number_at lines None = None
number_at lines (Some number) = number_on (slice_get lines number)

-- an element by its tag, and by its number where that is shown, else by its length
abbrev pub number_or_length : Option ℕ → Option Length → List ℕ
number_or_length (Some number) length = codes " " ++ decimal number
number_or_length None length = length_said length

unfoldable pub header_said : Found → Option ℕ → List ℕ
header_said found number = tag_said found.tag ++ number_or_length number found.length

-- a container by its path and its place
unfoldable pub placed : List ℕ → FaultContainer → List ℕ
placed root container = path_text root container.path.items ++ codes " at " ++ decimal container.at

-- the place where an element would end that passes this one by so many octets
unfoldable pub would_end : ℕ → ℕ → List ℕ
would_end end over = codes ", which would end at " ++ decimal (end + over) ++ codes "; "

-- the place where the container ends, and by how many octets it is passed
unfoldable pub ends_before : ℕ → ℕ → List ℕ
ends_before end over =
    codes ", which it is in, ends at " ++ decimal end ++ codes ": " ++ sized over ++ codes " too many"

-- the container that ends at this place, and whose end an element passes by so many octets
abbrev pub passed_at : List ℕ → FaultContainer → ℕ → Option ℕ → List ℕ
passed_at root container over None = []
passed_at root container over (Some end) =
    would_end end over ++ placed root container ++ ends_before end over

unfoldable pub passed_said : List ℕ → FaultContainer → ℕ → List ℕ
passed_said root container over = passed_at root container over container.end

-- of an element that has so many contents octets too many, in this container, or in none that ends
abbrev pub over_said : List ℕ → Option ℕ → Option FaultContainer → List ℕ
over_said root None container = []
over_said root (Some over) (Some container) = passed_said root container over
over_said root (Some over) None = codes ": " ++ sized over ++ codes " missing"

unfoldable pub element_said : List ℕ → Diagnosis → List ℕ
element_said root diagnosis = over_said root diagnosis.over diagnosis.container

-- the container in which something is missing
abbrev pub end_said : Option ℕ → List ℕ
end_said None = []
end_said (Some end) = codes " at " ++ decimal end

abbrev pub ended : List ℕ → Option FaultContainer → List ℕ
ended root None = []
ended root (Some container) = placed root container ++ codes " ends" ++ end_said container.end

unfoldable pub container_said : List ℕ → Diagnosis → List ℕ
container_said root diagnosis = ended root diagnosis.container

-- the element that is there; else the container that ends there
abbrev pub found_by : List ℕ → Diagnosis → Option ℕ → Option Found → List ℕ
found_by root diagnosis number (Some found) = header_said found number ++ element_said root diagnosis
found_by root diagnosis number None = container_said root diagnosis

unfoldable pub found_of : List ℕ → Diagnosis → Option ℕ → List ℕ
found_of root diagnosis number = found_by root diagnosis number diagnosis.found

abbrev pub found_in : List ℕ → List Line → Option Diagnosis → List ℕ
found_in root lines None = []
found_in root lines (Some diagnosis) = found_of root diagnosis (number_at lines diagnosis.line)

abbrev pub diagnosis_said : Report → List ℕ
diagnosis_said report = found_in report.kind.type_name.now report.lines.items report.diagnosis

abbrev pub more_words : Bool → List ℕ
more_words is_inside =
    cond is_inside (codes " more inside privateKey, after the key") (codes " more after the document")

-- so many octets after what is inside privateKey, or after a document whose length doesn't say where it ends
unfoldable pub more_of : Bool → Bool → ℕ → List ℕ
more_of is_inside is_announced more = cond (not is_inside && is_announced) [] (sized more ++ more_words is_inside)

abbrev pub more_diagnosed : Bool → Bool → Option ℕ → List ℕ
more_diagnosed is_inside is_announced None = []
more_diagnosed is_inside is_announced (Some more) = more_of is_inside is_announced more

abbrev pub more_in : Bool → Bool → Option Diagnosis → List ℕ
more_in is_inside is_announced None = []
more_in is_inside is_announced (Some diagnosis) = more_diagnosed is_inside is_announced diagnosis.more

-- the same of a document that is judged so
abbrev pub more_by : Report → Answer → List ℕ
more_by report (Refused fault) = more_in (is_some fault.inside) (is_some report.announced) report.diagnosis
more_by report Der = []
more_by report (NotDer at) = []

abbrev pub more_said : Report → List ℕ
more_said report = more_by report report.answer

-- Whether the outermost length says something of a document that is refused so: not where it is no document at all,
-- nor where it wasn't read to its end.
abbrev pub says_size_by : Reason → ℕ → Bool
says_size_by reasons.TooLong at = false
says_size_by reasons.WrongTag at = not (at == 0)
says_size_by why at = true

abbrev pub says_size : Fault → Bool
says_size fault = says_size_by fault.why fault.at

-- how many octets there are, and how many there have to be
unfoldable pub off_by : ℕ → ℕ → List ℕ
off_by octets announced =
    cond (nat_lt octets announced) (sized (announced - octets) ++ codes " missing")
    (sized (octets - announced) ++ codes " more")

unfoldable pub size_of : ℕ → ℕ → List ℕ
size_of octets announced =
    cond (octets == announced) []
    (sized octets ++ codes "; the document says at 0 that it has " ++ decimal announced ++ codes ": "
    ++ off_by octets announced)

-- the same of a document that is judged so
abbrev pub size_by : ℕ → Answer → Option ℕ → List ℕ
size_by octets (Refused fault) (Some announced) = cond (says_size fault) (size_of octets announced) []
size_by octets (Refused fault) None = []
size_by octets Der announced = []
size_by octets (NotDer at) announced = []

abbrev pub size_said : Report → List ℕ
size_said report = size_by report.octets report.answer report.announced

abbrev pub found_said : Report → List ℕ
found_said report = joined (joined (diagnosis_said report) (more_said report)) (size_said report)
