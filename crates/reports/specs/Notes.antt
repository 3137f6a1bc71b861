-- What is said of a note, and whether there is one that a standard demands.
use Rattle.std.specs.Prelude.{Bool, List, codes, flat_map, ℕ, ◌++◌}
use Rattle.std.specs.List.{list_any}
use Rattle.std.specs.Str.{bytes_eq}
use Rattle.reports.specs.Hints.{remark_said}
use Rattle.reports.specs.Paths.{path_text}
use Rattle.reports.specs.Picks.{path_to_line}
use Rattle.reports.specs.Remarks.{remark_code, remark_level}
use Rattle.reports.specs.Texts.{line_feed}
use Rattle.reports.specs.declared.report.Note.{Note}
use Rattle.reports.specs.declared.report.Remark.{Remark}
use Rattle.reports.specs.declared.report.Report.{Report}

-- the level and the code of a remark
unfoldable pub coded : Remark → List ℕ
coded remark = remark_level remark ++ codes " " ++ remark_code remark ++ codes " "

-- them, the path to what a remark is about, and the remark
unfoldable pub note_said : Report → Note → List ℕ
note_said report note =
    coded note.remark ++ path_text report.kind.type_name.now (path_to_line report.lines.items note.line)
    ++ codes ": " ++ remark_said note.remark

-- the same as a line, which isn't wrapped
unfoldable pub plain_note : Report → Note → List ℕ
plain_note report note = codes "note " ++ note_said report note ++ line_feed

-- all notes of a report, each in one line
abbrev pub notes_text : Report → List ℕ
notes_text report = flat_map (plain_note report) report.notes.items

-- of the level `must`
unfoldable pub is_must : Remark → Bool
is_must remark = bytes_eq (remark_level remark) (codes "must")

-- a standard forbids what one of the notes is about
abbrev pub has_must : List Note → Bool
has_must notes = list_any (λ note. is_must note.remark) notes
