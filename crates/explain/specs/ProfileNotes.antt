-- The notes of a document under a profile.
use Rattle.std.specs.Prelude.{List, None, Option, [], codes, cond, false, slice_get, take, true, ℕ, ◌&&◌, ◌+◌, ◌++◌, ◌==◌, ◌||◌, ◌∷◌}
use Rattle.explain.specs.NotedTls.{is_common_name, tls_remark_on}
use Rattle.explain.specs.Notes.{identifier_in, is_attribute, members_of, most_notes, note_on, notes_on}
use Rattle.explain.specs.Public.{is_field}
use Rattle.explain.specs.declared.notes.tls.TlsContext.{TlsContext}
use Rattle.explain.specs.declared.profile.Profile.{Profile}
use Rattle.explain.specs.declared.profile.Profile.TheVariants as profiles
use Rattle.reports.specs.declared.report.Answer.{Answer}
use Rattle.reports.specs.declared.report.Answer.TheVariants.{Der, NotDer, Refused}
use Rattle.reports.specs.declared.report.Line.{Line}
use Rattle.reports.specs.declared.report.Note.{Note}

-- before the first line
abbrev pub tls_context_start : TlsContext
tls_context_start = record {
  algorithm = None;
  extension = None;
  attribute = None;
  has_common_name = false;
  is_empty = false;
}

-- What a line of a subject says of those after it: whether the subject is empty, the type of the last attribute, and
-- whether a commonName has been there. An attribute of the request ends the extensions before it.
abbrev pub named_context : TlsContext → Option Line → Line → List Line → TlsContext
named_context context around line after =
    cond (is_field line.step (codes "subject"))
    (record context { is_empty = members_of line.depth after == 0 })
    (cond (is_field line.step (codes "type"))
    (record context {
      attribute = identifier_in line.value;
      extension = cond (is_attribute around) None context.extension;
    })
    (record context {
      has_common_name = context.has_common_name
          || (is_field line.step (codes "value") && is_common_name context.attribute);
    }))

-- What the lines before say of the next one: the same, the last algorithm and the last extension.
abbrev pub tls_context_after : List Line → TlsContext → Line → List Line → TlsContext
tls_context_after lines context line after =
    cond (is_field line.step (codes "algorithm")) (record context { algorithm = identifier_in line.value })
    (cond (is_field line.step (codes "extnID")) (record context { extension = identifier_in line.value })
    (named_context context (slice_get lines line.around) line after))

-- the notes for TLS servers on the lines from this number on, by what those before say
abbrev pub tls_notes_from : List Line → TlsContext → ℕ → List Line → List Note
tls_notes_from lines context number [] = []
tls_notes_from lines context number (line ∷ after) =
    note_on number (tls_remark_on lines context line after)
    ++ tls_notes_from lines (tls_context_after lines context line after) (number + 1) after

abbrev pub tls_notes_on : List Line → List Note
tls_notes_on lines = tls_notes_from lines tls_context_start 0 lines

-- the notes on lines under a profile, the first ones: those for TLS servers after the others
abbrev pub notes_in : Profile → List Line → List Note
notes_in profiles.General lines = notes_on lines
notes_in profiles.Tls lines = take most_notes (notes_on lines ++ tls_notes_on lines)

-- the notes of a document that is answered so: of a refused one there are none
abbrev pub notes_by : Profile → Answer → List Line → List Note
notes_by profile Der lines = notes_in profile lines
notes_by profile (NotDer place) lines = notes_in profile lines
notes_by profile (Refused fault) lines = []
