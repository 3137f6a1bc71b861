-- What judging files comes to that have documents one behind another.
use Rattle.std.proofs.Common.{Bool, ◌≡◌, List, [], ◌∷◌, None, Option, Some, codes, cond, false, inl, inr, length, map, refl, subst, sym, true, ℕ}
use Rattle.x690.specs.Values.{Value}
use Rattle.pk_documents.specs.declared.document.Document.{Document}
use Rattle.commands.specs.Each.{AnsweredEach, Piece, entries_of, with_last}
use Rattle.commands.specs.Files.{has_failed_write, line_after, line_of_end, verdicts_of}
use Rattle.commands.specs.JudgedStreams.{JudgesFile, JudgesInputStream, JudgesStream, JudgesStreams, streams_of}
use Rattle.commands.specs.Judgements.{Goes, Input, Named, Part, Sources, Tallied, part_of, tally_through}
use Rattle.commands.specs.Names.{shown_name}
use Rattle.commands.specs.Openings.{why_of}
use Rattle.commands.specs.Outcomes.{line_of}
use Rattle.commands.specs.Standards.{Says, SaysAlone, Seen, is_dash}
use Rattle.commands.specs.Tallies.{tally_of}
use Rattle.commands.specs.declared.files.FilesEnd.{FilesEnd}
use Rattle.commands.specs.declared.files.FilesEnd.TheVariants as ends
use Rattle.commands.specs.declared.opener.Unopened.{Unopened as Why}
use Rattle.commands.specs.declared.outcome.Outcome.TheVariants as outcomes
use Rattle.commands.specs.declared.tally.Tally.{Tally}
use Rattle.commands.specs.declared.tally.Verdict.{Verdict}
use Rattle.commands.specs.declared.tally.Verdict.TheVariants.{Unread}
use Rattle.commands.specs.declared.task.Task.{Task}
use Rattle.commands.proofs.Judgements.{goes_one, tallied_so}

-- the documents of a source, by how going through them ended
pub stream_judged : {Source : Type 0} (has_failed : Source → Bool) (value_of : Document → Value) (task : Task)
    (shown name : List ℕ) (octets : Option (List ℕ)) (old new : Seen) (pieces : List Piece) (last : Option Piece)
    (ended : FilesEnd)
    → AnsweredEach value_of task name ((source : Source) × (has_failed source ≡ true)) octets old.output new.output pieces
    last ended
    → new.output_failed ≡ has_failed_write ended → (has_failed_write ended ≡ false → new.flushed ≡ true)
    → Says (line_of_end shown ended) old new
    → Tallied (JudgesStream has_failed value_of task shown name octets old new) (tally_through ended)
stream_judged {Source} has_failed value_of task shown name octets old new pieces last (ends.Through tally) answered failed
    flushed says = (
      verdicts_of (entries_of (with_last pieces last)),
      (pieces, last, ends.Through tally, answered, failed, flushed, says, refl),
      through answered,
    )
  where
    through : AnsweredEach value_of task name ((source : Source) × (has_failed source ≡ true)) octets old.output new.output
        pieces last (ends.Through tally) → tally ≡ tally_of (verdicts_of (entries_of (with_last pieces last)))
    through (ends.Through other, out, (documents, after, taken, (consumed, written, tallied)), keeps, inl same) = cc
    through (ends.Through other, out, said, keeps, inr (unfailed, same)) = absurd cc
    through (ends.WriteFailed count, out, said, keeps, inl same) = absurd cc
    through (ends.WriteFailed count, out, said, keeps, inr (unfailed, same)) = absurd cc
    through (ends.NoName fault, out, said, keeps, inl same) = absurd cc
    through (ends.NoName fault, out, said, keeps, inr (unfailed, same)) = absurd cc
    through (ends.Memory, out, said, keeps, inl same) = absurd cc
    through (ends.Memory, out, said, keeps, inr (unfailed, same)) = absurd cc
stream_judged has_failed value_of task shown name octets old new pieces last (ends.WriteFailed count) answered failed
    flushed says =
    (pieces, last, ends.WriteFailed count, answered, failed, flushed, says, refl)
stream_judged has_failed value_of task shown name octets old new pieces last (ends.NoName fault) answered failed flushed
    says =
    (pieces, last, ends.NoName fault, answered, failed, flushed, says, refl)
stream_judged has_failed value_of task shown name octets old new pieces last ends.Memory answered failed flushed says =
    (pieces, last, ends.Memory, answered, failed, flushed, says, refl)

-- standard input is taken already
pub input_gone : {Source : Type 0} (has_failed : Source → Bool) (value_of : Document → Value) (task : Task)
    (old new : Seen) (tally : Tally) → old.input ≡ None → SaysAlone (line_of (outcomes.ReadFailed 0)) old new
    → new.input ≡ old.input → tally ≡ tally_of (Unread ∷ [])
    → Tallied (JudgesInputStream has_failed value_of task old.input old new) (Some tally)
input_gone has_failed value_of task old new tally gone says same tallied =
    subst (λ it. Tallied (JudgesInputStream has_failed value_of task it old new) (Some tally)) (sym gone)
    (Unread ∷ [], (says, same, refl), tallied)

pub input_streamed : {Source : Type 0} (has_failed : Source → Bool) (value_of : Document → Value) (task : Task)
    (octets : Option (List ℕ)) (old new : Seen) (result : Option Tally) → old.input ≡ Some octets → new.input ≡ None
    → Tallied (JudgesStream has_failed value_of task (shown_name (codes "standard input")) [] octets old new) result
    → Tallied (JudgesInputStream has_failed value_of task old.input old new) result
input_streamed has_failed value_of task octets old new result known none judged =
    subst (λ it. Tallied (JudgesInputStream has_failed value_of task it old new) result) (sym known)
    (tallied_so (JudgesStream has_failed value_of task (shown_name (codes "standard input")) [] octets old new)
    (JudgesInputStream has_failed value_of task (Some octets) old new) (λ end it. (none, inr it)) result judged)

pub input_unnamed : {Source : Type 0} (has_failed : Source → Bool) (value_of : Document → Value) (task : Task)
    (octets : Option (List ℕ)) (old new : Seen) → old.input ≡ Some octets → new.input ≡ None
    → SaysAlone (line_of outcomes.Memory) old new
    → JudgesInputStream has_failed value_of task old.input old new None
input_unnamed has_failed value_of task octets old new known none says =
    subst (λ it. JudgesInputStream has_failed value_of task it old new None) (sym known) (none, inl (says, refl))

-- a file that is opened, or isn't
module _ {Source : Type 0} (has_failed : Source → Bool) (value_of : Document → Value)
    (known : List ℕ → Option (List ℕ)) (unopened : List ℕ → Why → Type 0) (task : Task) (name : List ℕ)
    (old new : Seen) (same : new.input ≡ old.input) where
  pub file_opened : (shown : List ℕ) (octets : Option (List ℕ)) (result : Option Tally) → shown ≡ shown_name name
      → octets ≡ known name → Tallied (JudgesStream has_failed value_of task shown name octets old new) result
      → Tallied (JudgesFile has_failed value_of known unopened task name old new) result
  file_opened shown octets result shown_is known_is judged =
      tallied_so (JudgesStream has_failed value_of task (shown_name name) name (known name) old new)
      (JudgesFile has_failed value_of known unopened task name old new) (λ end it. (same, inr (inr it))) result
      (subst (λ it. Tallied (JudgesStream has_failed value_of task it name (known name) old new) result) shown_is
      (subst (λ it. Tallied (JudgesStream has_failed value_of task shown name it old new) result) known_is judged))

  pub file_unopened : (why : Why) (shown : List ℕ) (tally : Tally) → unopened name why → shown ≡ shown_name name
      → SaysAlone (line_after shown (why_of why)) old new → tally ≡ tally_of (Unread ∷ [])
      → Tallied (JudgesFile has_failed value_of known unopened task name old new) (Some tally)
  file_unopened why shown tally is_so shown_is says tallied = (
    Unread ∷ [],
    (
      same,
      inr (inl (
        why,
        is_so,
        subst (λ it. SaysAlone (line_after it (why_of why)) old new) shown_is says,
        refl,
      )),
    ),
    tallied,
  )

-- one name by itself
module _ {Origin Opened : Type 0} (value_of : Document → Value) (sources : Sources Origin Opened) (task : Task)
    (name : List ℕ) (old new : Seen) (result : Option Tally) where
  pub dash_streamed : is_dash name ≡ true
      → Tallied (JudgesInputStream sources.input_failed value_of task old.input old new) result
      → Tallied (JudgesStreams value_of sources task (part_of name) old new) result
  dash_streamed dash =
      tallied_so (JudgesInputStream sources.input_failed value_of task old.input old new)
      (JudgesStreams value_of sources task (part_of name) old new)
      (λ end judged. subst (λ it. JudgesStreams value_of sources task (cond it Input (Named (name ∷ []))) old new end)
      (sym dash) judged) result

  pub file_streamed : is_dash name ≡ false
      → Tallied (JudgesFile sources.failed value_of sources.known sources.unopened task name old new) result
      → Tallied (JudgesStreams value_of sources task (part_of name) old new) result
  file_streamed file =
      tallied_so (JudgesFile sources.failed value_of sources.known sources.unopened task name old new)
      (JudgesStreams value_of sources task (part_of name) old new)
      (λ end judged. subst (λ it. JudgesStreams value_of sources task (cond it Input (Named (name ∷ []))) old new end)
      (sym file) judged) result

-- all names, or standard input
module _ (Step : Part → Seen → Seen → Option (List Verdict) → Type 0) (names : List (List ℕ)) (old new : Seen)
    (result : Option Tally) where
  pub stream_alone : names ≡ [] → Tallied (Step Input old new) result → Tallied (Goes Step (streams_of names) old new) result
  stream_alone none step =
      subst (λ it. Tallied (Goes Step (streams_of it) old new) result) (sym none)
      (tallied_so (Step Input old new) (Goes Step (Input ∷ []) old new) (λ end. goes_one Step Input old new end) result step)

  pub streams_named : (length names ≡ 0 → ⊥) → Tallied (Goes Step (map part_of names) old new) result
      → Tallied (Goes Step (streams_of names) old new) result
  streams_named some goes = subst (λ it. Tallied (Goes Step it old new) result) (alone names some) goes
    where
      alone : (names : List (List ℕ)) → (length names ≡ 0 → ⊥) → map part_of names ≡ streams_of names
      alone [] some = elim (some refl) [ ]
      alone (name ∷ names) some = refl
