-- Parts of a run, and what comes of them one after another.
use Rattle.std.proofs.Common.{Bool, ◌==◌, ◌≡◌, ◌∙◌, ◌++◌, ◌+◌, ◌<◌, ◌≤◌, List, [], ◌∷◌, None, Option, Some, ap, arith, append-nil, append_assoc, cond, drop, false, get_or, inl, inr, length, map, refl, subst, sym, true, ℕ}
use Rattle.std.specs.List.{list_any}
use Rattle.std.specs.Option.{option_map}
use Rattle.std.proofs.Math.ListN.{drop_of_length-le}
use Rattle.std.proofs.lemmas.Bool.Decides.{nat_tests}
use Rattle.std.proofs.lemmas.List.{drop_more}
use Rattle.x690.specs.Values.{Value}
use Rattle.pk_documents.specs.declared.document.Document.{Document}
use Rattle.pk_documents.specs.declared.kind.Kind.{Kind}
use Rattle.commands.specs.Endings.{AnsweredFiles, ServedOf}
use Rattle.commands.specs.Files.{Entry, has_failed_write, line_of_end, verdicts_of}
use Rattle.commands.specs.Judgements.{Goes, GoesThrough, Input, Judges, JudgesInput, JudgesListed, JudgesNames, Listed, Named, Part, Sources, StopsAt, StopsEnded, StopsWords, Tallied, leaves_of, part_of, parts_alone, parts_named, parts_of, tally_through, verdicts_after}
use Rattle.commands.specs.NameLists.{known_names, source_of, words_of}
use Rattle.commands.specs.Names.{shown_name}
use Rattle.commands.specs.Outcomes.{line_of}
use Rattle.commands.specs.Standards.{EndsAlone, Says, SaysAlone, Seen, is_dash}
use Rattle.commands.specs.Sums.{SumsUp}
use Rattle.commands.specs.Tallies.{tally_of, verdict_of}
use Rattle.commands.specs.declared.ended_names.EndedNames.{EndedNames}
use Rattle.commands.specs.declared.files.FilesEnd.{FilesEnd}
use Rattle.commands.specs.declared.files.FilesEnd.TheVariants as ends
use Rattle.commands.specs.declared.names.NamesFault.{NamesFault}
use Rattle.commands.specs.declared.names.Words.{Words}
use Rattle.commands.specs.declared.opener.Unopened.{Unopened as Why}
use Rattle.commands.specs.declared.outcome.Outcome.{Outcome}
use Rattle.commands.specs.declared.outcome.Outcome.TheVariants as outcomes
use Rattle.commands.specs.declared.tally.Tally.{Tally}
use Rattle.commands.specs.declared.tally.Verdict.{Verdict}
use Rattle.commands.specs.declared.tally.Verdict.TheVariants.{Unread}
use Rattle.commands.specs.declared.task.Task.{Task}

-- ---- what comes of documents, and is counted

pub tallied_so : (Some_of Others : Option (List Verdict) → Type 0)
    → ((end : Option (List Verdict)) → Some_of end → Others end)
    → (result : Option Tally) → Tallied Some_of result → Tallied Others result
tallied_so Some_of Others therefore None is = therefore None is
tallied_so Some_of Others therefore (Some tally) (verdicts, is, counted) =
    (verdicts, therefore (Some verdicts) is, counted)

pub none_left : {A : Type 0} (it : Option A) → ((value : A) → it ≡ Some value → ⊥) → it ≡ None
none_left None never = refl
none_left (Some value) never = elim (never value refl) [ ]

is_zero : (count : ℕ) → (count == 0) ≡ true → count ≡ 0
is_zero count holds = grind (arith, nat_tests)

pub none_named : {A B : Type 0} (f : A → B) (xs : List A) (is_empty : Bool) → is_empty ≡ true
    → is_empty ≡ (length xs == 0) → map f xs ≡ []
none_named f [] is_empty holds is = refl
none_named f (x ∷ xs) is_empty holds is =
    let none : length (x ∷ xs) ≡ 0 = is_zero (length (x ∷ xs)) (sym is ∙ holds) in
    absurd (omega arith)

pub some_named : {A B : Type 0} (f : A → B) (xs : List A) (is_empty : Bool) → is_empty ≡ false
    → is_empty ≡ (length xs == 0) → length (map f xs) ≡ 0 → ⊥
some_named f [] is_empty never is zero = cc
some_named f (x ∷ xs) is_empty never is zero = omega arith

tallied_as : (end : Option (List Verdict)) → Tallied (λ it. it ≡ end) (option_map tally_of end)
tallied_as None = refl
tallied_as (Some verdicts) = (verdicts, refl, refl)

-- a document after which the run goes on
pub goes_on_after : (outcome : Outcome) (kind : Option Kind)
    → ((after : ℕ) → outcome ≡ outcomes.WriteFailed after → ⊥)
    → Some (tally_of (verdict_of outcome kind ∷ [])) ≡ option_map tally_of (verdicts_after outcome kind)
goes_on_after outcomes.Done kind not = refl
goes_on_after (outcomes.NotDer at) kind not = refl
goes_on_after outcomes.Noted kind not = refl
goes_on_after (outcomes.Fault found) kind not = refl
goes_on_after (outcomes.NoKind likely) kind not = refl
goes_on_after (outcomes.Explained found) kind not = refl
goes_on_after (outcomes.ReadFailed at) kind not = refl
goes_on_after (outcomes.WriteFailed after) kind not = absurd (not after refl)
goes_on_after outcomes.Memory kind not = refl

-- the documents of a list, by how a run over them ended
pub names_judged : (value_of : Document → Value) (known : List ℕ → Option (List ℕ)) (unopened : List ℕ → Why → Type 0)
    (leaves : Bool → Option (List ℕ) → Type 0) (task : Task) (list : List ℕ) (names : Option (List (List ℕ)))
    (stops : Option (List (List ℕ)) → NamesFault → Type 0) (old new : Seen) (entries : List Entry) (last : FilesEnd)
    → AnsweredFiles value_of known unopened leaves task names stops old.output new.output entries last
    → new.output_failed ≡ has_failed_write last → (has_failed_write last ≡ false → new.flushed ≡ true)
    → Says (line_of_end list last) old new
    → Tallied (JudgesNames value_of known unopened leaves task list names stops old new) (tally_through last)
names_judged value_of known unopened leaves task list names stops old new entries (ends.Through tally) answered failed
    flushed says = (
      verdicts_of entries,
      (entries, ends.Through tally, answered, failed, flushed, says, refl),
      through answered,
    )
  where
    through : AnsweredFiles value_of known unopened leaves task names stops old.output new.output entries
        (ends.Through tally) → tally ≡ tally_of (verdicts_of entries)
    through (ends.Through other, out, said, (named, written, tallied), keeps, inl same) = cc
    through (ends.Through other, out, said, ended, keeps, inr (unfailed, same)) = absurd cc
    through (ends.WriteFailed count, out, said, ended, keeps, inl same) = absurd cc
    through (ends.WriteFailed count, out, said, ended, keeps, inr (unfailed, same)) = absurd cc
    through (ends.NoName fault, out, said, ended, keeps, inl same) = absurd cc
    through (ends.NoName fault, out, said, ended, keeps, inr (unfailed, same)) = absurd cc
    through (ends.Memory, out, said, ended, keeps, inl same) = absurd cc
    through (ends.Memory, out, said, ended, keeps, inr (unfailed, same)) = absurd cc
names_judged value_of known unopened leaves task list names stops old new entries (ends.WriteFailed count) answered
    failed flushed says =
    (entries, ends.WriteFailed count, answered, failed, flushed, says, refl)
names_judged value_of known unopened leaves task list names stops old new entries (ends.NoName fault) answered failed
    flushed says =
    (entries, ends.NoName fault, answered, failed, flushed, says, refl)
names_judged value_of known unopened leaves task list names stops old new entries ends.Memory answered failed flushed
    says =
    (entries, ends.Memory, answered, failed, flushed, says, refl)

-- the document of standard input
pub input_judged : (value_of : Document → Value) (task : Task) (octets after : Option (List ℕ)) (unread : Bool)
    (outcome : Outcome) (kind : Option Kind) (old new : Seen) (result : Option Tally) → old.input ≡ Some octets
    → ServedOf value_of task kind octets after unread outcome old.output new.output new.output_failed new.flushed
    → Says (line_of outcome) old new → new.input ≡ None → result ≡ option_map tally_of (verdicts_after outcome kind)
    → Tallied (JudgesInput value_of task old.input old new) result
input_judged value_of task octets after unread outcome kind old new result known served says none tallied =
    subst (λ it. Tallied (JudgesInput value_of task it old new) result) (sym known)
    (tallied_so (λ it. it ≡ verdicts_after outcome kind) (JudgesInput value_of task (Some octets) old new)
    (λ end is. (outcome, kind, after, unread, served, says, none, is)) result
    (subst (Tallied (λ it. it ≡ verdicts_after outcome kind)) (sym tallied) (tallied_as (verdicts_after outcome kind))))

-- standard input is taken already
pub input_gone : (value_of : Document → Value) (task : Task) (old new : Seen) (tally : Tally) → old.input ≡ None
    → SaysAlone (line_of (outcomes.ReadFailed 0)) old new → new.input ≡ old.input → tally ≡ tally_of (Unread ∷ [])
    → Tallied (JudgesInput value_of task old.input old new) (Some tally)
input_gone value_of task old new tally gone says same tallied =
    subst (λ it. Tallied (JudgesInput value_of task it old new) (Some tally)) (sym gone)
    (Unread ∷ [], (says, same, refl), tallied)

-- one name by itself
pub dash_judged : {Origin Opened : Type 0} (value_of : Document → Value) (sources : Sources Origin Opened) (task : Task)
    (name : List ℕ) (old new : Seen) (result : Option Tally) → is_dash name ≡ true
    → Tallied (JudgesInput value_of task old.input old new) result
    → Tallied (Judges value_of sources task (part_of name) old new) result
dash_judged value_of sources task name old new result dash =
    tallied_so (JudgesInput value_of task old.input old new) (Judges value_of sources task (part_of name) old new)
    (λ end judged. subst (λ it. Judges value_of sources task (cond it Input (Named (name ∷ []))) old new end) (sym dash)
    judged) result

pub file_judged : {Origin Opened : Type 0} (value_of : Document → Value) (sources : Sources Origin Opened) (task : Task)
    (name : List ℕ) (old new : Seen) (result : Option Tally) → is_dash name ≡ false
    → Tallied (Judges value_of sources task (Named (name ∷ [])) old new) result
    → Tallied (Judges value_of sources task (part_of name) old new) result
file_judged value_of sources task name old new result file =
    tallied_so (Judges value_of sources task (Named (name ∷ [])) old new)
    (Judges value_of sources task (part_of name) old new)
    (λ end judged. subst (λ it. Judges value_of sources task (cond it Input (Named (name ∷ []))) old new end) (sym file)
    judged) result

-- ---- the end of a run

pub sums_alone : (task : Task) (tally : Tally) (old new : Seen) (status : ℕ) → new.output ≡ old.output
    → new.output_failed ≡ old.output_failed → SumsUp (λ line it. Says line old new × (status ≡ it)) task tally
    → SumsUp (EndsAlone old new status) task tally
sums_alone task tally old new status same alike (inl (says, is)) = inl ((says, same, alike), is)
sums_alone task tally old new status same alike (inr (says, is)) = inr ((says, same, alike), is)

-- ---- parts of a run

module _ {Origin Opened : Type 0} (value_of : Document → Value) (sources : Sources Origin Opened) (task : Task)
    (old new : Seen) (end : Option (List Verdict)) where
  -- the names of a list that are known of standard input
  listed_from_input_ends : (list known_as : List ℕ) (source : Origin) (first names : EndedNames Origin)
      → is_dash list ≡ true
      → old.input ≡ Some (sources.input_remaining source) → new.input ≡ None → known_as ≡ shown_name list
      → source_of first ≡ source
      → JudgesNames value_of sources.known sources.unopened (leaves_of sources) task known_as
      (known_names [] (sources.input_remaining (source_of first)))
      (StopsEnded sources.input_failed sources.input_remaining names) old new end
      → Judges value_of sources task (Listed list) old new end
  listed_from_input_ends list known_as source first names dash some none known_is first_is judged = inr (
    none ∙ sym (ap (λ it. cond it None old.input) dash),
    subst (λ it. JudgesListed value_of sources task list it old.input old new end) (sym dash)
        (subst (λ it. JudgesListed value_of sources task list true it old new end) (sym some) (
          names,
          subst
              (λ it. JudgesNames value_of sources.known sources.unopened (leaves_of sources) task (shown_name list)
              (known_names [] (sources.input_remaining it))
              (StopsEnded sources.input_failed sources.input_remaining names) old new end)
              first_is
              (subst
              (λ it. JudgesNames value_of sources.known sources.unopened (leaves_of sources) task it
              (known_names [] (sources.input_remaining (source_of first)))
              (StopsEnded sources.input_failed sources.input_remaining names) old new end)
              known_is judged),
        )),
  )

  listed_from_file_ends : (list known_as : List ℕ) (source : Opened) (first names : EndedNames Opened)
      → is_dash list ≡ false → sources.remaining source ≡ sources.known list → new.input ≡ old.input
      → known_as ≡ shown_name list → source_of first ≡ source
      → JudgesNames value_of sources.known sources.unopened (leaves_of sources) task known_as
      (known_names [] (sources.remaining (source_of first)))
      (StopsEnded sources.failed sources.remaining names) old new end
      → Judges value_of sources task (Listed list) old new end
  listed_from_file_ends list known_as source first names file known_are same known_is first_is judged = inr (
    same ∙ sym (ap (λ it. cond it None old.input) file),
    subst (λ it. JudgesListed value_of sources task list it old.input old new end) (sym file)
        (inr (
          names,
          subst
              (λ it. JudgesNames value_of sources.known sources.unopened (leaves_of sources) task (shown_name list)
              (known_names [] it) (StopsEnded sources.failed sources.remaining names) old new end)
              (ap sources.remaining first_is ∙ known_are)
              (subst
              (λ it. JudgesNames value_of sources.known sources.unopened (leaves_of sources) task it
              (known_names [] (sources.remaining (source_of first))) (StopsEnded sources.failed sources.remaining names)
              old new end)
              known_is judged),
        )),
  )

  -- the documents of names
  named_by_words_ends : (names : List (List ℕ)) (known_as : List ℕ) (first last : Words) → words_of first ≡ names
      → new.input ≡ old.input → known_as ≡ shown_name []
      → JudgesNames value_of sources.known sources.unopened (leaves_of sources) task known_as (Some (words_of first))
      (StopsWords last) old new end
      → Judges value_of sources task (Named names) old new end
  named_by_words_ends names known_as first last names_are same known_is judged = (
    same,
    inr (
      last,
      subst
          (λ it. JudgesNames value_of sources.known sources.unopened (leaves_of sources) task (shown_name []) (Some it)
          (StopsWords last) old new end)
          names_are
          (subst
          (λ it. JudgesNames value_of sources.known sources.unopened (leaves_of sources) task it (Some (words_of first))
          (StopsWords last) old new end)
          known_is judged),
    ),
  )

-- the same where it is counted
module _ {Origin Opened : Type 0} (value_of : Document → Value) (sources : Sources Origin Opened) (task : Task)
    (old new : Seen) (result : Option Tally) where
  pub listed_from_input : (list known_as : List ℕ) (source : Origin) (first names : EndedNames Origin)
      → is_dash list ≡ true
      → old.input ≡ Some (sources.input_remaining source) → new.input ≡ None → known_as ≡ shown_name list
      → source_of first ≡ source
      → Tallied (JudgesNames value_of sources.known sources.unopened (leaves_of sources) task known_as
      (known_names [] (sources.input_remaining (source_of first)))
      (StopsEnded sources.input_failed sources.input_remaining names) old new) result
      → Tallied (Judges value_of sources task (Listed list) old new) result
  listed_from_input list known_as source first names dash some none known_is first_is =
      tallied_so
      (JudgesNames value_of sources.known sources.unopened (leaves_of sources) task known_as
      (known_names [] (sources.input_remaining (source_of first)))
      (StopsEnded sources.input_failed sources.input_remaining names) old new)
      (Judges value_of sources task (Listed list) old new)
      (λ end. listed_from_input_ends value_of sources task old new end list known_as source first names dash some none
      known_is first_is)
      result

  pub listed_from_file : (list known_as : List ℕ) (source : Opened) (first names : EndedNames Opened)
      → is_dash list ≡ false → sources.remaining source ≡ sources.known list → new.input ≡ old.input
      → known_as ≡ shown_name list → source_of first ≡ source
      → Tallied (JudgesNames value_of sources.known sources.unopened (leaves_of sources) task known_as
      (known_names [] (sources.remaining (source_of first)))
      (StopsEnded sources.failed sources.remaining names) old new) result
      → Tallied (Judges value_of sources task (Listed list) old new) result
  listed_from_file list known_as source first names file known_are same known_is first_is =
      tallied_so
      (JudgesNames value_of sources.known sources.unopened (leaves_of sources) task known_as
      (known_names [] (sources.remaining (source_of first)))
      (StopsEnded sources.failed sources.remaining names) old new)
      (Judges value_of sources task (Listed list) old new)
      (λ end. listed_from_file_ends value_of sources task old new end list known_as source first names file known_are
      same known_is first_is)
      result

  pub named_by_words : (names : List (List ℕ)) (known_as : List ℕ) (first last : Words) → words_of first ≡ names
      → new.input ≡ old.input → known_as ≡ shown_name []
      → Tallied (JudgesNames value_of sources.known sources.unopened (leaves_of sources) task known_as
      (Some (words_of first)) (StopsWords last) old new) result
      → Tallied (Judges value_of sources task (Named names) old new) result
  named_by_words names known_as first last names_are same known_is =
      tallied_so
      (JudgesNames value_of sources.known sources.unopened (leaves_of sources) task known_as (Some (words_of first))
      (StopsWords last) old new)
      (Judges value_of sources task (Named names) old new)
      (λ end. named_by_words_ends value_of sources task old new end names known_as first last names_are same known_is)
      result

module _ (Step : Part → Seen → Seen → Option (List Verdict) → Type 0) where
  pub goes_one : (part : Part) (old new : Seen) (end : Option (List Verdict)) → Step part old new end
      → Goes Step (part ∷ []) old new end
  goes_one part old new None step = inl step
  goes_one part old new (Some verdicts) step =
      (new, verdicts, [], step, (refl, refl), sym (append-nil verdicts))

  pub goes_further : (parts others : List Part) (old between new : Seen) (first last : List Verdict)
      → GoesThrough Step parts old between first → GoesThrough Step others between new last
      → GoesThrough Step (parts ++ others) old new (first ++ last)
  goes_further [] others old between new first last (same, none) further =
      subst (λ at. GoesThrough Step others at new (first ++ last)) same
      (subst (λ verdicts. GoesThrough Step others between new verdicts) (sym (ap (λ it. it ++ last) none)) further)
  goes_further (part ∷ parts) others old between new first last (next, one, rest, step, through, first_is) further = (
    next,
    one,
    rest ++ last,
    step,
    goes_further parts others next between new rest last through further,
    ap (λ it. it ++ last) first_is ∙ append_assoc one rest last,
  )

  pub stops_further : (parts others : List Part) (old between new : Seen) (first : List Verdict)
      → GoesThrough Step parts old between first → StopsAt Step others between new
      → StopsAt Step (parts ++ others) old new
  stops_further [] others old between new first (same, none) stops = subst (λ at. StopsAt Step others at new) same stops
  stops_further (part ∷ parts) others old between new first (next, one, rest, step, through, first_is) stops =
      inr (next, one, step, stops_further parts others next between new rest through stops)

  -- what is after the part that the run ends with doesn't matter
  pub stops_before : (parts others : List Part) (old new : Seen) → StopsAt Step parts old new
      → StopsAt Step (parts ++ others) old new
  stops_before [] others old new stops = elim stops [ ]
  stops_before (part ∷ parts) others old new (inl step) = inl step
  stops_before (part ∷ parts) others old new (inr (between, first, step, stops)) =
      inr (between, first, step, stops_before parts others between new stops)

  pub one_further : (parts : List Part) (part : Part) (old between new : Seen) (first last : List Verdict)
      → GoesThrough Step parts old between first → Step part between new (Some last)
      → GoesThrough Step (parts ++ part ∷ []) old new (first ++ last)
  one_further parts part old between new first last through step =
      goes_further parts (part ∷ []) old between new first last through (goes_one part between new (Some last) step)

-- Each name by itself, so many of them being done: what comes of those that are left, after what came of those before
-- them, comes of all names.
module _ (Step : Part → Seen → Seen → Option (List Verdict) → Type 0) {Name : Type 0} (text_of : Name → List ℕ)
    (names : List Name) (done : ℕ) (none : Name) (is_left : done < length names) (start now next : Seen) where
  abbrev parts_left : ℕ → List Part
  parts_left count = map part_of (map text_of (drop count names))

  abbrev all_parts : List Part
  all_parts = map part_of (map text_of names)

  abbrev this : Part
  this = part_of (text_of (get_or names done none))

  parts_are : this ∷ parts_left (done + 1) ≡ parts_left done
  parts_are = sym (ap (λ it. map part_of (map text_of it)) (drop_more names done none is_left))

  pub goes_on : (so_far first : List Verdict)
      → ((new : Seen) (last : List Verdict) → GoesThrough Step (parts_left done) now new last
      → GoesThrough Step all_parts start new (so_far ++ last))
      → Step this now next (Some first)
      → (new : Seen) (last : List Verdict) → GoesThrough Step (parts_left (done + 1)) next new last
      → GoesThrough Step all_parts start new ((so_far ++ first) ++ last)
  goes_on so_far first through step new last further =
      subst (GoesThrough Step all_parts start new) (sym (append_assoc so_far first last))
      (through new (first ++ last)
      (subst (λ it. GoesThrough Step it now new (first ++ last)) parts_are (next, first, last, step, further, refl)))

  module _ (stops : (new : Seen) → StopsAt Step (parts_left done) now new → StopsAt Step all_parts start new) where
    pub stops_later : (first : List Verdict) → Step this now next (Some first) → (new : Seen)
        → StopsAt Step (parts_left (done + 1)) next new → StopsAt Step all_parts start new
    stops_later first step new later =
        stops new (subst (λ it. StopsAt Step it now new) parts_are (inr (next, first, step, later)))

    pub stops_here : Step this now next None → StopsAt Step all_parts start next
    stops_here step = stops next (subst (λ it. StopsAt Step it now next) parts_are (inl step))

-- Each name by itself, all of them being done.
module _ (Step : Part → Seen → Seen → Option (List Verdict) → Type 0) {Name : Type 0} (text_of : Name → List ℕ)
    (names : List Name) (done : ℕ) (start now : Seen) (so_far : List Verdict) where
  pub goes_all : ((new : Seen) (last : List Verdict) → GoesThrough Step (map part_of (map text_of (drop done names))) now
      new last → GoesThrough Step (map part_of (map text_of names)) start new (so_far ++ last)) → length names ≤ done
      → GoesThrough Step (map part_of (map text_of names)) start now so_far
  goes_all through all =
      let none = sym (drop_of_length-le names all) in
      subst (GoesThrough Step (map part_of (map text_of names)) start now) (append-nil so_far)
      (through now []
      (subst (λ it. GoesThrough Step (map part_of (map text_of it)) now now []) none (refl, refl)))

-- All names, and the list after them.
module _ (Step : Part → Seen → Seen → Option (List Verdict) → Type 0) (names : List (List ℕ)) (old new : Seen) where
  pub each_by_itself : (result : Option Tally) → list_any is_dash names ≡ true
      → Tallied (Goes Step (map part_of names) old new) result → Tallied (Goes Step (parts_named names) old new) result
  each_by_itself result dash goes =
      subst (λ it. Tallied (Goes Step (cond it (map part_of names) (Named names ∷ [])) old new) result) (sym dash) goes

  pub all_at_once : (result : Option Tally) → list_any is_dash names ≡ false
      → Tallied (Step (Named names) old new) result → Tallied (Goes Step (parts_named names) old new) result
  all_at_once result none step =
      subst (λ it. Tallied (Goes Step (cond it (map part_of names) (Named names ∷ [])) old new) result) (sym none)
      (tallied_so (Step (Named names) old new) (Goes Step (Named names ∷ []) old new)
      (λ end. goes_one Step (Named names) old new end) result step)

  -- no names, and no list
  pub input_alone : (listed : Option (List ℕ)) (result : Option Tally) → listed ≡ None → names ≡ []
      → Tallied (Step Input old new) result → Tallied (Goes Step (parts_of names listed) old new) result
  input_alone listed result unlisted none step =
      subst (λ it. Tallied (Goes Step (parts_of names it) old new) result) (sym unlisted)
      (subst (λ it. Tallied (Goes Step (parts_of it None) old new) result) (sym none)
      (tallied_so (Step Input old new) (Goes Step (Input ∷ []) old new)
      (λ end. goes_one Step Input old new end) result step))

  -- names, and no list
  pub names_alone : (listed : Option (List ℕ)) (result : Option Tally) → listed ≡ None → (length names ≡ 0 → ⊥)
      → Tallied (Goes Step (parts_named names) old new) result → Tallied (Goes Step (parts_of names listed) old new) result
  names_alone listed result unlisted some goes =
      subst (λ it. Tallied (Goes Step (parts_of names it) old new) result) (sym unlisted)
      (subst (λ it. Tallied (Goes Step it old new) result) (alone names some) goes)
    where
      alone : (names : List (List ℕ)) → (length names ≡ 0 → ⊥) → parts_named names ≡ parts_alone names
      alone [] some = elim (some refl) [ ]
      alone (name ∷ names) some = refl

  module _ (list : List ℕ) (listed : Option (List ℕ)) (is_listed : Some list ≡ listed) where
    pub stops_in_names : (result : Option Tally) → None ≡ result → StopsAt Step (parts_named names) old new
        → Tallied (Goes Step (parts_of names listed) old new) result
    stops_in_names result none stops =
        subst (λ it. Tallied (Goes Step (parts_of names it) old new) result) is_listed
        (subst (Tallied (Goes Step (parts_of names (Some list)) old new)) none
        (stops_before Step (parts_named names) (Listed list ∷ []) old new stops))

    module _ (between : Seen) (first : Tally)
        (through : Tallied (Goes Step (parts_named names) old between) (Some first)) where
      pub stops_in_list : (result : Option Tally) → None ≡ result → Step (Listed list) between new None
          → Tallied (Goes Step (parts_of names listed) old new) result
      stops_in_list result none step =
          subst (λ it. Tallied (Goes Step (parts_of names it) old new) result) is_listed
          (subst (Tallied (Goes Step (parts_of names (Some list)) old new)) none
          (stops_further Step (parts_named names) (Listed list ∷ []) old between new through.0 through.1 (inl step)))

      pub through_list : (last both : Tally) → Tallied (Step (Listed list) between new) (Some last)
          → ((all others : List Verdict) → first ≡ tally_of all → last ≡ tally_of others
          → both ≡ tally_of (all ++ others))
          → Tallied (Goes Step (parts_of names listed) old new) (Some both)
      through_list last both step sum =
          subst (λ it. Tallied (Goes Step (parts_of names it) old new) (Some both)) is_listed (
            through.0 ++ step.0,
            one_further Step (parts_named names) (Listed list) old between new through.0 step.0 through.1 step.1,
            sum through.0 step.0 through.2 step.2,
          )
