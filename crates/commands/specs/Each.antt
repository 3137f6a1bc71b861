-- Documents that stand one behind another, and what is said of each.
use Rattle.std.specs.Prelude.{◌≡◌, ◌⊎◌, ◌++◌, ◌+◌, ◌<◌, ◌≤◌, ◌==◌, ◌^◌, ◌∷◌, ℕ, Bool, Err, List, None, Ok, Option, Result, Some, [], codes, cond, decimal, drop, false, length, map, take, true}
use Rattle.std.specs.Io.KnownBytes.{Appends, Consumes, IsAtEnd, Keeps}
use Rattle.std.specs.List.{flat_map}
use Rattle.tlv_core.specs.Limits.{Limits}
use Rattle.tlv_core.specs.declared.fault.Fault.{Fault}
use Rattle.x690.specs.Answers.{Refused, Spelled, answer}
use Rattle.x690.specs.Values.{Value}
use Rattle.pk_documents.specs.KindRows.{kinds as all_kinds}
use Rattle.pk_documents.specs.Kinds.{type_of}
use Rattle.pk_documents.specs.declared.document.Document.{Document}
use Rattle.pk_documents.specs.declared.kind.Kind.{Kind}
use Rattle.commands.specs.Endings.{FilesEndAs}
use Rattle.commands.specs.Files.{Entry, IsSaid, texts_of, verdicts_of}
use Rattle.commands.specs.declared.each.Begun.{Begun}
use Rattle.commands.specs.declared.each.Begun.TheVariants as begun
use Rattle.commands.specs.declared.each.Coming.{Coming}
use Rattle.commands.specs.declared.each.Coming.TheVariants as coming
use Rattle.commands.specs.declared.files.FilesEnd.{FilesEnd}
use Rattle.commands.specs.declared.files.FilesEnd.TheVariants as ends
use Rattle.commands.specs.declared.names.NamesFault.{NamesFault}
use Rattle.commands.specs.declared.names.NamesFault.TheVariants.{Memory, Read, TooLong, TooMany}
use Rattle.commands.specs.declared.tally.Tally.{Tally}
use Rattle.commands.specs.declared.tally.Verdict.{Verdict}
use Rattle.commands.specs.declared.task.Task.{Task}
use Rattle.commands.specs.Tallies.{tally_of}

-- ---- what stands in a stream

-- the kinds that its documents may be of: the one that is told, or all
abbrev pub kinds_for : Option Kind → List Kind
kinds_for None = all_kinds
kinds_for (Some kind) = kind ∷ []

-- The octets are one document of a kind, whatever stands behind them.
abbrev pub IsDocumentOf : Limits → List ℕ → Kind → Type 0
IsDocumentOf limits octets kind =
    (text : List ℕ) × ((more : List ℕ) → answer limits (type_of kind) (octets ++ more) ≡ Spelled text (length octets))

-- They are one of one of these kinds.
abbrev pub IsDocument : Limits → List ℕ → List Kind → Type 0
IsDocument limits octets [] = ⊥
IsDocument limits octets (kind ∷ others) = IsDocumentOf limits octets kind ⊎ IsDocument limits octets others

-- No document of these kinds begins the octets: as one of each they have a fault.
abbrev pub BeginsNone : Limits → List ℕ → List Kind → Type 0
BeginsNone limits octets [] = Unit {0}
BeginsNone limits octets (kind ∷ others) =
    ((found : Fault) × (answer limits (type_of kind) octets ≡ Refused found)) × BeginsNone limits octets others

-- None does whatever stands behind them.
abbrev pub NeverBegins : Limits → List ℕ → List Kind → Type 0
NeverBegins limits octets [] = Unit {0}
NeverBegins limits octets (kind ∷ others) =
    ((found : Fault) × ((more : List ℕ) → answer limits (type_of kind) (octets ++ more) ≡ Refused found))
    × NeverBegins limits octets others

-- by what octets are begun that are at hand
abbrev pub IsBegun : Limits → List ℕ → List Kind → Begun → Type 0
IsBegun limits octets kinds (begun.Document count) =
    (count ≤ length octets) × IsDocument limits (take count octets) kinds
IsBegun limits octets kinds begun.Never = NeverBegins limits octets kinds
IsBegun limits octets kinds begun.NotYet = BeginsNone limits octets kinds

-- No document begins these octets of a source whatever comes behind them; or none does, and they are some, behind which
-- nothing comes, or more than the limit.
abbrev pub IsSettled : Limits → List Kind → Option (List ℕ) → List ℕ → Type 0
IsSettled limits kinds after octets =
    NeverBegins limits octets kinds
    ⊎ (BeginsNone limits octets kinds
    × (((octets ≡ [] → ⊥) × IsAtEnd after) ⊎ (limits.octets < length octets)))

-- What comes next in a source, of which these octets are ahead: nothing; a document of so many; octets that no document
-- begins; or a read failed.
abbrev pub IsNext : Limits → List Kind → Bool → Option (List ℕ) → List ℕ → Coming → Type 0
IsNext limits kinds failed after octets coming.End = (failed ≡ false) × (octets ≡ []) × IsAtEnd after
IsNext limits kinds failed after octets (coming.Document count) =
    (failed ≡ false) × (count ≤ length octets) × IsDocument limits (take count octets) kinds
IsNext limits kinds failed after octets coming.Other = (failed ≡ false) × IsSettled limits kinds after octets
IsNext limits kinds failed after octets coming.Unread = failed ≡ true

-- Octets were taken behind those that were ahead, and this comes next.
pub record ComesNext (limits : Limits) (kinds : List Kind) (failed : Bool) (before after : Option (List ℕ))
    (old new : List ℕ) (next : Coming) : Type 0 where
  pub more : List ℕ
  pub takes : Consumes before after more
  pub grown : new ≡ old ++ more
  pub is_next : IsNext limits kinds failed after new next

-- ---- what is said of it

-- The octets of a document, and what is said of them under its name.
pub record Piece : Type 0 where
  pub octets : List ℕ
  pub entry : Entry

abbrev pub octets_of : List Piece → List ℕ
octets_of pieces = flat_map (λ it. it.octets) pieces

abbrev pub entries_of : List Piece → List Entry
entries_of pieces = map (λ it. it.entry) pieces

-- The name of a document: that of its stream, if it has one, its number, and its place in the stream.
abbrev pub name_in : List ℕ → ℕ → ℕ → List ℕ
name_in stream number at =
    cond (length stream == 0) [] (stream ++ codes ": ") ++ decimal number ++ codes " at " ++ decimal at

-- This is what the task says of these octets as it does of a file that has them and this name. They are read without
-- fail.
abbrev pub IsPieceSaid : (Document → Value) → Task → List ℕ → Piece → Type 0
IsPieceSaid value_of task name piece =
    (piece.entry.name ≡ name)
    × IsSaid value_of (λ _. Some piece.octets) (λ _ _. ⊥) (λ failed _. failed ≡ false) task name piece.entry.verdict
    piece.entry.text

-- They are documents one behind another, of which the first has this number and this place, and this is said of them.
abbrev pub AreDocuments : (Document → Value) → Task → List ℕ → ℕ → ℕ → List Piece → Type 0
AreDocuments value_of task stream number at [] = Unit {0}
AreDocuments value_of task stream number at (piece ∷ pieces) =
    IsDocument task.limits piece.octets (kinds_for task.kind)
    × IsPieceSaid value_of task (name_in stream number at) piece
    × AreDocuments value_of task stream (number + 1) (at + length piece.octets) pieces

-- Behind them nothing more is taken; or octets are, and this is said of them as those of the next document.
abbrev pub IsLast : (Document → Value) → Task → List ℕ → List Piece → Option Piece → Type 0
IsLast value_of task stream pieces None = Unit {0}
IsLast value_of task stream pieces (Some last) =
    IsPieceSaid value_of task (name_in stream (length pieces + 1) (length (octets_of pieces))) last

abbrev pub with_last : List Piece → Option Piece → List Piece
with_last pieces None = pieces
with_last pieces (Some last) = pieces ++ last ∷ []

-- ---- one step

-- What is said of a piece is out, and counted.
pub record SaysPiece (tally : Tally) (out : ℕ) (old new : Option (List ℕ)) (piece : Piece) (tally_new : Tally)
    (out_new : ℕ) : Type 0 where
  pub written : Appends old new piece.entry.text
  pub counted : out_new ≡ out + length piece.entry.text
  pub tallied : (all : List Verdict) → tally ≡ tally_of all → tally_new ≡ tally_of (all ++ piece.entry.verdict ∷ [])

-- Not all of it is: the target has failed, or its octets can't be counted with those that are out.
abbrev pub StopsSaying : ℕ → Option (List ℕ) → Option (List ℕ) → Piece → FilesEnd → Type 0
StopsSaying out old new piece (ends.Through tally) = ⊥
StopsSaying out old new piece (ends.WriteFailed count) =
    (written : ℕ) × (count ≡ out + written) × (written ≤ length piece.entry.text)
    × Appends old new (take written piece.entry.text)
StopsSaying out old new piece (ends.NoName fault) =
    (fault ≡ TooMany) × (2 ^ 64 ≤ out + length piece.entry.text) × (new ≡ old)
StopsSaying out old new piece ends.Memory = ⊥

-- What the task says of octets under a name is out; or that stops, perhaps for want of memory.
abbrev pub SaysNext : {Further : Type 0} → (Document → Value) → Task → List ℕ → List ℕ → Tally → ℕ → Option (List ℕ)
    → Option (List ℕ) → (Further → Tally) → (Further → ℕ) → Result Further FilesEnd → Type 0
SaysNext {Further} value_of task name octets tally out old new tally_of_it out_of_it (Ok further) =
    (piece : Piece) × (piece.octets ≡ octets) × IsPieceSaid value_of task name piece
    × SaysPiece tally out old new piece (tally_of_it further) (out_of_it further)
SaysNext {Further} value_of task name octets tally out old new tally_of_it out_of_it (Err end) =
    ((end ≡ ends.Memory) × (new ≡ old))
    ⊎ ((piece : Piece) × (piece.octets ≡ octets) × IsPieceSaid value_of task name piece
    × StopsSaying out old new piece end)

-- So many octets are passed, a document's.
pub record Passes (count : ℕ) (old : List ℕ) (at number : ℕ) (new : List ℕ) (at_new number_new : ℕ) : Type 0 where
  pub octets : new ≡ drop count old
  pub place : at_new ≡ at + count
  pub next : number_new ≡ number + 1

-- They aren't: they can't be counted, or no memory is left.
abbrev pub StopsPassing : ℕ → ℕ → ℕ → FilesEnd → Type 0
StopsPassing count at number end =
    (end ≡ ends.Memory)
    ⊎ ((end ≡ ends.NoName TooMany) × ((2 ^ 64 ≤ at + count) ⊎ (2 ^ 64 ≤ number + 1)))

-- ---- how going through a stream ends

-- So far it has come: these documents were taken, of which all is out, and these octets are ahead.
pub record WentOn (value_of : Document → Value) (task : Task) (stream : List ℕ) (before left : Option (List ℕ))
    (ahead : List ℕ) (old new : Option (List ℕ)) (tally : Tally) (out at number : ℕ) (pieces : List Piece) : Type 0 where
  pub said : AreDocuments value_of task stream 1 0 pieces
  pub taken : Consumes before left (octets_of pieces ++ ahead)
  pub written : Appends old new (texts_of (entries_of pieces))
  pub tallied : tally ≡ tally_of (verdicts_of (entries_of pieces))
  pub counted : out ≡ length (texts_of (entries_of pieces))
  pub placed : at ≡ length (octets_of pieces)
  pub numbered : number ≡ length pieces + 1

-- Behind the documents the source is at its end; or octets stand there that no document begins.
abbrev pub EndsWith : Task → Option (List ℕ) → Option Piece → Type 0
EndsWith task after None = IsAtEnd after
EndsWith task after (Some last) = IsSettled task.limits (kinds_for task.kind) after last.octets

-- More can't be counted: documents, their octets, or those of what is said of them.
abbrev pub IsUncounted : List Piece → Type 0
IsUncounted pieces =
    (2 ^ 64 ≤ length pieces + 2)
    ⊎ ((2 ^ 64 ≤ length (octets_of pieces)) ⊎ (2 ^ 64 ≤ length (texts_of (entries_of pieces))))

-- Why no more documents come: the source has failed; or they can't be counted, with the next one where there is one.
abbrev pub StopsEach : Type 0 → List Piece → Option Piece → NamesFault → Type 0
StopsEach IsFailed pieces last Read = IsFailed
StopsEach IsFailed pieces last TooMany = IsUncounted (with_last pieces last)
StopsEach IsFailed pieces last TooLong = ⊥
StopsEach IsFailed pieces last Memory = ⊥

-- How it ends, by the octets before it: behind all documents, with what came of all; with the text of one of which the
-- first octets are out; or since no more come, or no memory is left.
abbrev pub EachEnds : Task → Type 0 → Option (List ℕ) → Option (List ℕ) → Option (List ℕ) → List Piece
    → Option Piece → FilesEnd → Type 0
EachEnds task IsFailed before old new pieces last (ends.Through tally) =
    ((after : Option (List ℕ)) × Consumes before after (octets_of (with_last pieces last)) × EndsWith task after last)
    × Appends old new (texts_of (entries_of (with_last pieces last)))
    × (tally ≡ tally_of (verdicts_of (entries_of (with_last pieces last))))
EachEnds task IsFailed before old new pieces last (ends.WriteFailed count) =
    (count ≤ length (texts_of (entries_of (with_last pieces last))))
    × Appends old new (take count (texts_of (entries_of (with_last pieces last))))
EachEnds task IsFailed before old new pieces last (ends.NoName fault) =
    Appends old new (texts_of (entries_of pieces)) × StopsEach IsFailed pieces last fault
EachEnds task IsFailed before old new pieces last ends.Memory = Appends old new (texts_of (entries_of pieces))

-- Documents were taken, and perhaps octets behind them that no document begins; what is said of them is written, and so
-- it ends.
abbrev pub EachSaid : (Document → Value) → Task → List ℕ → Type 0 → Option (List ℕ) → Option (List ℕ)
    → Option (List ℕ) → List Piece → Option Piece → FilesEnd → Type 0
EachSaid value_of task stream IsFailed before old new pieces last end =
    AreDocuments value_of task stream 1 0 pieces
    × IsLast value_of task stream pieces last
    × ((left : Option (List ℕ)) × Consumes before left (octets_of (with_last pieces last)))
    × EachEnds task IsFailed before old new pieces last end

-- The same, and then the target is flushed.
abbrev pub AnsweredEach : (Document → Value) → Task → List ℕ → Type 0 → Option (List ℕ) → Option (List ℕ)
    → Option (List ℕ) → List Piece → Option Piece → FilesEnd → Type 0
AnsweredEach value_of task stream IsFailed before old new pieces last ended =
    (end : FilesEnd)
    × (out : Option (List ℕ))
    × EachSaid value_of task stream IsFailed before old out pieces last end
    × Keeps out new
    × FilesEndAs end ended
