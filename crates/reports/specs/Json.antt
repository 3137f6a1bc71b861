-- A report as tokens of JSON: one object, whose members are in this order, and are absent where they say nothing.
use Rattle.std.specs.Prelude.{Bool, List, None, Option, Some, [], codes, cond, flat_map, length, nat_lt, ℕ, ◌++◌, ◌-◌, ◌==◌}
use Rattle.json.specs.Token.{Token}
use Rattle.tlv_core.specs.declared.reason.Reason.{Reason}
use Rattle.reports.specs.declared.report.Answer.{Answer}
use Rattle.reports.specs.declared.report.Answer.TheVariants.{Der, NotDer, Refused}
use Rattle.reports.specs.declared.report.Diagnosis.{Diagnosis}
use Rattle.reports.specs.declared.report.Line.{Line}
use Rattle.reports.specs.declared.report.Note.{Note}
use Rattle.reports.specs.declared.report.Report.{Report}
use Rattle.reports.specs.Briefs.{brief_said}
use Rattle.reports.specs.Field.{field_said}
use Rattle.reports.specs.Hints.{do_said, likely_said}
use Rattle.reports.specs.JsonAsks.{summary_member}
use Rattle.reports.specs.JsonLists.{line_object, not_der_members, note_object, place_members}
use Rattle.reports.specs.JsonMembers.{list_member, number_member, object, object_member, optional, said_member, text_member}
use Rattle.reports.specs.JsonWords.{guess_word}
use Rattle.reports.specs.Words.{due_said, found_said}

-- those of a fault inside privateKey, where there is one
unfoldable pub inside_members : Option (ℕ × Reason) → List Token
inside_members None = []
inside_members (Some inside) = object_member (codes "inside") (place_members inside.0 inside.1)

unfoldable pub verdict_members : ℕ → List ℕ → List Token
verdict_members status verdict = number_member (codes "status") status ++ text_member (codes "verdict") verdict

-- what check answers
unfoldable pub answer_members : Answer → List Token
answer_members Der = verdict_members 0 (codes "der")
answer_members (NotDer at) = verdict_members 1 (codes "not_der") ++ number_member (codes "at") at
answer_members (Refused fault) =
    verdict_members 2 (codes "refused") ++ place_members fault.at fault.why ++ inside_members fault.inside

-- The number of this form of a report, the version of the program, the file, and the answer.
unfoldable pub head_members : Report → List ℕ → Option (List ℕ) → List Token
head_members report version file =
    number_member (codes "form") 1 ++ text_member (codes "version") version
    ++ optional (text_member (codes "file")) file ++ text_member (codes "kind") report.kind.word.now
    ++ number_member (codes "octets") report.octets ++ answer_members report.answer

-- the place of the fault in the file, where it has one
abbrev pub file_place : Option Diagnosis → Option ℕ
file_place None = None
file_place (Some diagnosis) = diagnosis.file_at

-- that place, and the path of the field that the report is about
unfoldable pub about_members : Report → List Token
about_members report =
    optional (number_member (codes "file_at")) (file_place report.diagnosis)
    ++ said_member (codes "field") (field_said report)

-- how many there are more of the latter, where there are more
abbrev pub more_than : ℕ → ℕ → Option ℕ
more_than less more = cond (nat_lt less more) (Some (more - less)) None

-- where the outermost element ends, beside the octets that there are
unfoldable pub missing_members : ℕ → Option ℕ → List Token
missing_members octets None = []
missing_members octets (Some announced) = optional (number_member (codes "missing")) (more_than octets announced)

-- how many octets follow: as is shown, or after where the outermost element ends
abbrev pub follow_by : Option ℕ → Option ℕ → ℕ → Option ℕ
follow_by (Some more) announced octets = Some more
follow_by None (Some announced) octets = more_than announced octets
follow_by None None octets = None

unfoldable pub more_members : ℕ → Option ℕ → Option ℕ → List Token
more_members octets announced known = optional (number_member (codes "more")) (follow_by known announced octets)

-- what is said in numbers of a document that is refused
unfoldable pub number_members : Report → Diagnosis → List Token
number_members report diagnosis =
    missing_members report.octets report.announced ++ optional (number_member (codes "over")) diagnosis.over
    ++ more_members report.octets report.announced diagnosis.more

-- what is due and what was found, in words
unfoldable pub due_members : Report → List Token
due_members report = said_member (codes "due") (due_said report) ++ said_member (codes "found") (found_said report)

-- the usual cause, what to do, and the answer for whoever sent the file, in words
unfoldable pub advice_members : Report → List Token
advice_members report =
    said_member (codes "likely") (likely_said report) ++ said_member (codes "do") (do_said report)
    ++ text_member (codes "brief") (brief_said report)

-- where it isn't in DER, if that is the answer
unfoldable pub places_members : ℕ → Answer → Report → List Token
places_members places Der report = []
places_members places (NotDer at) report = not_der_members places report report.lines.items
places_members places (Refused fault) report = []

-- all its elements, where they are wanted
unfoldable pub lines_member : Bool → List Line → List Token
lines_member all lines = cond all (list_member (codes "lines") (flat_map line_object lines)) []

-- what it asks for, and all its elements, where they are wanted
unfoldable pub contents_members : Report → Bool → List Token
contents_members report all = summary_member report ++ lines_member all report.lines.items

unfoldable pub notes_member : Report → List Note → List Token
notes_member report notes =
    cond (length notes == 0) [] (list_member (codes "notes") (flat_map (note_object report) notes))

-- what is certain of the document
unfoldable pub certain_members : Report → List ℕ → Option (List ℕ) → ℕ → List Token
certain_members report version file places =
    head_members report version file ++ about_members report
    ++ optional (number_members report) report.diagnosis ++ said_member (codes "looks_like") (guess_word report.guess)
    ++ places_members places report.answer report

-- What check says: that.
unfoldable pub check_object : Report → List ℕ → Option (List ℕ) → ℕ → List Token
check_object report version file places = object (certain_members report version file places)

-- What check says with notes.
unfoldable pub noted_object : Report → List ℕ → Option (List ℕ) → ℕ → List Token
noted_object report version file places =
    object (certain_members report version file places ++ notes_member report report.notes.items)

-- What explain says: the same, and what there is to say in words, the elements and the notes.
unfoldable pub report_object : Report → List ℕ → Option (List ℕ) → Bool → ℕ → List Token
report_object report version file all places =
    object (head_members report version file ++ about_members report
    ++ due_members report ++ optional (number_members report) report.diagnosis
    ++ said_member (codes "looks_like") (guess_word report.guess) ++ advice_members report
    ++ places_members places report.answer report ++ contents_members report all
    ++ notes_member report report.notes.items)
