-- What a run over named documents has come to, document after document.
use Rattle.std.proofs.Common.{◌≡◌, ◌∙◌, ◌+◌, ◌^◌, ◌≤◌, ◌++◌, Bool, List, [], ◌∷◌, Option, ap, append-nil, arith, inl, inr, length, length-append, refl, subst, sym, take, ℕ}
use Rattle.std.proofs.KnownBytes.{Appends-trans}
use Rattle.std.proofs.Math.Seq.{take-append-add}
use Rattle.std.proofs.lemmas.Grind.{flat_map-append}
use Rattle.std.proofs.lemmas.List.{map-append}
use Rattle.std.proofs.lemmas.List.Elements.{All-append, All-cons, All-nil}
use Rattle.std.specs.Io.KnownBytes.{Appends}
use Rattle.x690.specs.Values.{Value}
use Rattle.pk_documents.specs.declared.document.Document.{Document}
use Rattle.commands.specs.Files.{AreSaid, Entry, FilesSaid, GivesUp, IsSaid, Went, names_of, texts_of, verdicts_of}
use Rattle.commands.specs.NameLists.{NoneLeft, TakesNames}
use Rattle.commands.specs.Tallies.{tally_of}
use Rattle.commands.specs.declared.files.FilesEnd.TheVariants as ends
use Rattle.commands.specs.declared.names.NamesFault.{NamesFault}
use Rattle.commands.specs.declared.names.NamesFault.TheVariants.{TooMany}
use Rattle.commands.specs.declared.opener.Unopened.{Unopened as Why}
use Rattle.commands.specs.declared.tally.Tally.{Tally}
use Rattle.commands.specs.declared.tally.Verdict.{Verdict}
use Rattle.commands.specs.declared.task.Task.{Task}
use Rattle.commands.proofs.NameLists.{list_begins, list_ends, names_go_on}

pub texts_after : (all : List Entry) (it : Entry) → texts_of (all ++ it ∷ []) ≡ texts_of all ++ it.text
texts_after all it =
    flat_map-append (λ e. e.text) all (it ∷ []) ∙ ap (λ text. texts_of all ++ text) (append-nil it.text)

names_after_all : (all : List Entry) (it : Entry) → names_of (all ++ it ∷ []) ≡ names_of all ++ it.name ∷ []
names_after_all all it = map-append (λ e. e.name) all (it ∷ [])

pub verdicts_after : (all : List Entry) (it : Entry) → verdicts_of (all ++ it ∷ []) ≡ verdicts_of all ++ it.verdict ∷ []
verdicts_after all it = map-append (λ e. e.verdict) all (it ∷ [])

module _ (value_of : Document → Value) (known : List ℕ → Option (List ℕ))
    (refuses : List ℕ → Why → Type 0) (leaves : Bool → Option (List ℕ) → Type 0) (task : Task)
    (list left : Option (List (List ℕ)))
    (stops : Option (List (List ℕ)) → NamesFault → Type 0) (old mid : Option (List ℕ)) (tally : Tally) (out : ℕ)
    (all : List Entry)
    (went : Went value_of known refuses leaves task list left old mid tally out all) where
  pub through : NoneLeft left → FilesSaid value_of known refuses leaves task list stops old mid (ends.Through tally)
  through none = (all, went.said, (list_ends list left (names_of all) went.named none, went.written, went.tallied))

  pub no_name : (fault : NamesFault) → GivesUp (AreSaid value_of known refuses leaves task) stops list all fault
      → FilesSaid value_of known refuses leaves task list stops old mid (ends.NoName fault)
  no_name fault gives_up = (all, went.said, (list_begins list left (names_of all) went.named, went.written, gives_up))

  -- the next name doesn't come
  pub stopped : (fault : NamesFault) → stops left fault
      → FilesSaid value_of known refuses leaves task list stops old mid (ends.NoName fault)
  stopped fault stops_so = no_name fault (inl (left, went.named, stops_so))

  pub no_memory_for : FilesSaid value_of known refuses leaves task list stops old mid ends.Memory
  no_memory_for = (all, went.said, (list_begins list left (names_of all) went.named, went.written))

  module _ (new : Option (List (List ℕ))) (last : Option (List ℕ)) (name text : List ℕ) (this : Verdict)
      (said : IsSaid value_of known refuses leaves task name this text) (next : TakesNames left new (name ∷ [])) where
    abbrev it : Entry
    it = record { name = name; verdict = this; text = text }

    all_said : AreSaid value_of known refuses leaves task (all ++ it ∷ [])
    all_said =
        All-append (λ e. IsSaid value_of known refuses leaves task e.name e.verdict e.text) all (it ∷ []) went.said
        (All-cons (λ e. IsSaid value_of known refuses leaves task e.name e.verdict e.text) it [] said
        (All-nil (λ e. IsSaid value_of known refuses leaves task e.name e.verdict e.text)))

    all_named : TakesNames list new (names_of (all ++ it ∷ []))
    all_named =
        subst (TakesNames list new) (sym (names_after_all all it))
        (names_go_on list left new (names_of all) (name ∷ []) went.named next)

    pub goes_further : (tally_new : Tally) (out_new : ℕ)
        → ((so_far : List Verdict) → tally ≡ tally_of so_far → tally_new ≡ tally_of (so_far ++ this ∷ []))
        → out_new ≡ out + length text
        → Appends mid last text
        → (more : List Entry) × (length more ≡ length all + 1)
        × Went value_of known refuses leaves task list new old last tally_new out_new more
    goes_further tally_new out_new tallies out_is written = (
      all ++ it ∷ [],
      length-append all (it ∷ []),
      record {
        said = all_said;
        named = all_named;
        written =
            subst (Appends old last) (sym (texts_after all it))
            (Appends-trans old mid last (texts_of all) text went.written written);
        tallied = tallies (verdicts_of all) went.tallied ∙ ap tally_of (sym (verdicts_after all it));
        counted =
            out_is ∙ ap (λ n. n + length text) went.counted ∙ sym (length-append (texts_of all) text)
            ∙ ap length (sym (texts_after all it));
      },
    )

    -- the octets can't be counted with those of its text
    pub uncounted : 2 ^ 64 ≤ out + length text
        → FilesSaid value_of known refuses leaves task list stops old mid (ends.NoName TooMany)
    uncounted many =
        let length_is : length (texts_of (all ++ it ∷ [])) ≡ length (texts_of all) + length text =
        ap length (texts_after all it) ∙ length-append (texts_of all) text in
        no_name TooMany
        (inr (
          refl,
          inr (
            it,
            all_said,
            list_begins list new (names_of (all ++ it ∷ [])) all_named,
            omega (arith, many, went.counted, length_is),
          ),
        ))

    pub cut_short : (count written : ℕ) → count ≡ out + written → written ≤ length text
        → Appends mid last (take written text)
        → FilesSaid value_of known refuses leaves task list stops old last (ends.WriteFailed count)
    cut_short count written count_is few appended =
        let whole = texts_of (all ++ it ∷ []) in
        let count_of : count ≡ length (texts_of all) + written =
        count_is ∙ ap (λ n. n + written) went.counted in
        let part : take count whole ≡ texts_of all ++ take written text =
        ap (λ n. take n whole) count_of ∙ ap (take (length (texts_of all) + written)) (texts_after all it)
        ∙ take-append-add (texts_of all) text written in
        let long : length whole ≡ length (texts_of all) + length text =
        ap length (texts_after all it) ∙ length-append (texts_of all) text in (
          all ++ it ∷ [],
          all_said,
          (
            list_begins list new (names_of (all ++ it ∷ [])) all_named,
            omega (arith, count_of, long, few),
            subst (Appends old last) (sym part)
                (Appends-trans old mid last (texts_of all) (take written text) went.written appended),
          ),
        )

-- nothing is done yet
pub begins : (value_of : Document → Value) (known : List ℕ → Option (List ℕ)) (refuses : List ℕ → Why → Type 0)
    (leaves : Bool → Option (List ℕ) → Type 0) (task : Task) (list : Option (List (List ℕ))) (old : Option (List ℕ))
    (tally : Tally) → tally ≡ tally_of [] → TakesNames list list [] → Appends old old []
    → Went value_of known refuses leaves task list list old old tally 0 []
begins value_of known refuses leaves task list old tally none named written = record {
  said = All-nil (λ e. IsSaid value_of known refuses leaves task e.name e.verdict e.text);
  named = named;
  written = written;
  tallied = none;
  counted = refl;
}
