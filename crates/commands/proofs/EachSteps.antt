-- What a run over documents one behind another has come to, document after document.
use Rattle.std.proofs.Common.{◌≡◌, ◌∙◌, ◌⊎◌, ◌+◌, ◌-◌, ◌^◌, ◌≤◌, ◌++◌, Bool, Err, List, [], ◌∷◌, MatchResult, None, Option, Result, Some, ap, ap₂, append-nil, append_assoc, arith, drop, get_or, inl, inr, length, length-append, refl, subst, sym, take, take-append-drop, ℕ}
use Rattle.std.proofs.KnownBytes.{Appends-trans, Consumes-trans}
use Rattle.std.proofs.Math.Seq.{take-append-add, take-append_seam}
use Rattle.std.proofs.lemmas.Grind.{flat_map-append}
use Rattle.std.proofs.lemmas.List.{length-take-le, map-append, take_rest}
use Rattle.std.specs.Io.KnownBytes.{Appends, Consumes, IsAtEnd}
use Rattle.tlv_core.specs.Limits.{Limits}
use Rattle.tlv_core.specs.declared.fault.Fault.{Fault}
use Rattle.tlv_core.specs.declared.fault.ReadError.TheVariants as errors
use Rattle.tlv_core.specs.declared.reason.Reason.TheVariants.{Truncated}
use Rattle.x690.specs.Answers.{Refused, Spelled, answer}
use Rattle.x690.specs.DerTexts.{der}
use Rattle.x690.specs.Points.{fault}
use Rattle.x690.specs.Values.{Value}
use Rattle.x690_laws.proofs.AnswersOfDocuments.{needed_octets}
use Rattle.asn_documents.specs.ReadValues.{ReadsValue, StopsReading}
use Rattle.pk_documents.specs.Kinds.{type_of}
use Rattle.pk_documents.specs.declared.document.Document.{Document}
use Rattle.pk_documents.specs.declared.kind.Kind.{Kind}
use Rattle.commands.specs.Each.{AreDocuments, BeginsNone, ComesNext, EachSaid, IsBegun, IsDocument, IsPieceSaid, IsSettled, IsUncounted, NeverBegins, Passes, Piece, SaysPiece, StopsPassing, StopsSaying, WentOn, entries_of, kinds_for, name_in, octets_of}
use Rattle.commands.specs.Files.{IsSaid, texts_of, verdicts_of}
use Rattle.commands.specs.Tallies.{tally_of}
use Rattle.commands.specs.declared.each.Begun.{Begun}
use Rattle.commands.specs.declared.each.Begun.TheVariants as begun
use Rattle.commands.specs.declared.each.Coming.{Coming}
use Rattle.commands.specs.declared.files.Came.TheVariants.{Ran, Unopened}
use Rattle.commands.specs.declared.files.FilesEnd.{FilesEnd}
use Rattle.commands.specs.declared.files.FilesEnd.TheVariants as ends
use Rattle.commands.specs.declared.names.NamesFault.TheVariants.{Read, TooMany}
use Rattle.commands.specs.declared.tally.Tally.{Tally}
use Rattle.commands.specs.declared.tally.Verdict.{Verdict}
use Rattle.commands.specs.declared.task.Task.{Task}
use Rattle.commands.proofs.Entries.{texts_after, verdicts_after}

-- ---- what begins octets

-- a document of a kind was read, and this is left
pub document_begins : (limits : Limits) (kind : Kind) (value : Value) (octets rest : List ℕ) (taken count : ℕ)
    → ReadsValue limits (type_of kind) value (Some octets) (Some rest) taken → count ≡ length octets - length rest
    → IsBegun limits octets (kind ∷ []) (begun.Document count)
document_begins limits kind value octets rest taken count reads is =
    let all : length octets ≡ length reads.octets + length rest =
    ap length reads.takes ∙ length-append reads.octets rest in
    let count_is : count ≡ length reads.octets = omega (arith, is, all) in
    let first : take count octets ≡ reads.octets =
    ap₂ take count_is reads.takes ∙ take-append_seam reads.octets rest in (
      omega (arith, is, all),
      subst (λ it. IsDocument limits it (kind ∷ [])) (sym first)
          (inl (der value, λ more. reads.answers more ∙ ap (Spelled (der value)) reads.taken_are)),
    )

refused_alike : (found other : Fault) → Refused found ≡ Refused other → found ≡ other
refused_alike found other same = cc

-- none of a kind was read, for this fault
pub refused_so : (limits : Limits) (kind : Kind) (octets rest : List ℕ) (found : Fault)
    → StopsReading limits (type_of kind) (errors.Fault found) (Some octets) (Some rest)
    → answer limits (type_of kind) octets ≡ Refused found
refused_so limits kind octets rest found stops = stops.2.answers

pub none_yet : (limits : Limits) (kind : Kind) (octets rest : List ℕ) (found : Fault)
    → StopsReading limits (type_of kind) (errors.Fault found) (Some octets) (Some rest)
    → IsBegun limits octets (kind ∷ []) begun.NotYet
none_yet limits kind octets rest found stops = ((found, refused_so limits kind octets rest found stops), tt)

-- a fault that isn't that octets are too few stays whatever stands behind them
pub none_ever : (limits : Limits) (kind : Kind) (octets rest : List ℕ) (found : Fault)
    → StopsReading limits (type_of kind) (errors.Fault found) (Some octets) (Some rest) → (found.why ≡ Truncated → ⊥)
    → IsBegun limits octets (kind ∷ []) begun.Never
none_ever limits kind octets rest found stops not =
    let refused = refused_so limits kind octets rest found stops in
    go refused (needed_octets.more limits (type_of kind) octets)
  where
    go : answer limits (type_of kind) octets ≡ Refused found
        → (answer limits (type_of kind) octets ≡ Refused (fault (length octets) Truncated))
        ⊎ ((more : List ℕ) → answer limits (type_of kind) (octets ++ more) ≡ answer limits (type_of kind) octets)
        → IsBegun limits octets (kind ∷ []) begun.Never
    go refused (inl truncated) =
        absurd (not (ap (λ it. it.why) (refused_alike found (fault (length octets) Truncated) (sym refused ∙ truncated))))
    go refused (inr alike) = ((found, λ more. alike more ∙ refused), tt)

-- what never is begun isn't begun now
pub never_now : (limits : Limits) (octets : List ℕ) (kinds : List Kind) → NeverBegins limits octets kinds
    → BeginsNone limits octets kinds
never_now limits octets [] never = tt
never_now limits octets (kind ∷ others) ((found, refused), never) =
    ((found, sym (ap (answer limits (type_of kind)) (append-nil octets)) ∙ refused []), never_now limits octets others never)

-- of one kind, of which it is no document, and of others
module _ (limits : Limits) (octets : List ℕ) (kind : Kind) (others : List Kind) where
  pub others_never : (first : Begun) → ((count : ℕ) → first ≡ begun.Document count → ⊥)
      → IsBegun limits octets (kind ∷ []) first → IsBegun limits octets others begun.Never
      → IsBegun limits octets (kind ∷ others) first
  others_never (begun.Document count) not is later = absurd (not count refl)
  others_never begun.Never not is later = (is.0, later)
  others_never begun.NotYet not is later = (is.0, never_now limits octets others later)

  pub others_not_yet : (first : Begun) → ((count : ℕ) → first ≡ begun.Document count → ⊥)
      → IsBegun limits octets (kind ∷ []) first → IsBegun limits octets others begun.NotYet
      → IsBegun limits octets (kind ∷ others) begun.NotYet
  others_not_yet (begun.Document count) not is later = absurd (not count refl)
  others_not_yet begun.Never not is later = ((never_now limits octets (kind ∷ []) is).0, later)
  others_not_yet begun.NotYet not is later = (is.0, later)

  pub others_so : (first later : Begun) → (later ≡ begun.Never → ⊥)
      → ((count : ℕ) → first ≡ begun.Document count → ⊥) → IsBegun limits octets (kind ∷ []) first
      → IsBegun limits octets others later → IsBegun limits octets (kind ∷ others) later
  others_so first (begun.Document count) some not is later = (later.0, inr later.1)
  others_so first begun.Never some not is later = absurd (some refl)
  others_so first begun.NotYet some not is later = others_not_yet first not is later

pub isnt_never : (later : Begun) → ((count : ℕ) × (later ≡ begun.Document count)) ⊎ (later ≡ begun.NotYet)
    → later ≡ begun.Never → ⊥
isnt_never later (inl (count, is)) never = let z = sym is ∙ never in cc
isnt_never later (inr is) never = let z = sym is ∙ never in cc

-- of the first of these kinds, of which it is no document, and of those after it
pub begun_by_both : (limits : Limits) (octets : List ℕ) (kinds : List Kind) (some : Kind) (first later both : Begun)
    → 1 ≤ length kinds → ((count : ℕ) → first ≡ begun.Document count → ⊥)
    → IsBegun limits octets (get_or kinds 0 some ∷ []) first
    → IsBegun limits octets (take (length kinds - 1) (drop 1 kinds)) later → ((kind : Kind) (others : List Kind) → ((count : ℕ) → first ≡ begun.Document count → ⊥)
    → IsBegun limits octets (kind ∷ []) first → IsBegun limits octets others later
    → IsBegun limits octets (kind ∷ others) both)
    → IsBegun limits octets kinds both
begun_by_both limits octets [] some first later both full not is others so = absurd (omega (arith, full))
begun_by_both limits octets (kind ∷ kinds) some first later both full not is others so =
    so kind kinds not is
    (subst (λ it. IsBegun limits octets it later) (take_rest (kind ∷ kinds) 1) others)

-- ---- what is said of octets at hand, which are read without fail

pub said_at_hand : (value_of : Document → Value) (octets : List ℕ)
    (leaves others : Bool → Option (List ℕ) → Type 0) (task : Task) (name : List ℕ) (verdict : Verdict) (text : List ℕ)
    → ((failed : Bool) (after : Option (List ℕ)) → leaves failed after → others failed after)
    → IsSaid value_of (λ _. Some octets) (λ _ _. ⊥) leaves task name verdict text
    → IsSaid value_of (λ _. Some octets) (λ _ _. ⊥) others task name verdict text
said_at_hand value_of octets leaves others task name verdict text so
    (Ran outcome, found, written, (after, end, replied, left, kept), counts, is) =
    (Ran outcome, found, written, (after, end, replied, so _ _ left, kept), counts, is)
said_at_hand value_of octets leaves others task name verdict text so
    (Unopened why, found, written, came, counts, is) = elim came [ ]

-- what a step says of an end that it hands on
pub handed_on : {Further : Type 0} (P : Further → Type 0) (Q : FilesEnd → Type 0) (result : Result Further FilesEnd)
    (end : FilesEnd) → result ≡ Err end → Q end → MatchResult result P Q
handed_on P Q result end is said = subst (λ it. MatchResult it P Q) (sym is) said

-- ---- pieces one behind another

octets_after : (pieces : List Piece) (next : Piece) → octets_of (pieces ++ next ∷ []) ≡ octets_of pieces ++ next.octets
octets_after pieces next =
    flat_map-append (λ it. it.octets) pieces (next ∷ []) ∙ ap (λ it. octets_of pieces ++ it) (append-nil next.octets)

entries_after : (pieces : List Piece) (next : Piece) → entries_of (pieces ++ next ∷ []) ≡ entries_of pieces ++ next.entry ∷ []
entries_after pieces next = map-append (λ it. it.entry) pieces (next ∷ [])

text_after : (pieces : List Piece) (next : Piece)
    → texts_of (entries_of (pieces ++ next ∷ [])) ≡ texts_of (entries_of pieces) ++ next.entry.text
text_after pieces next = ap texts_of (entries_after pieces next) ∙ texts_after (entries_of pieces) next.entry

verdict_after : (pieces : List Piece) (next : Piece)
    → verdicts_of (entries_of (pieces ++ next ∷ [])) ≡ verdicts_of (entries_of pieces) ++ next.entry.verdict ∷ []
verdict_after pieces next = ap verdicts_of (entries_after pieces next) ∙ verdicts_after (entries_of pieces) next.entry

documents_go_on : (value_of : Document → Value) (task : Task) (stream : List ℕ) (number at : ℕ) (pieces : List Piece)
    (next : Piece) → AreDocuments value_of task stream number at pieces
    → IsDocument task.limits next.octets (kinds_for task.kind)
    → IsPieceSaid value_of task (name_in stream (number + length pieces) (at + length (octets_of pieces))) next
    → AreDocuments value_of task stream number at (pieces ++ next ∷ [])
documents_go_on value_of task stream number at [] next are is said =
    let same_number : number + 0 ≡ number = omega arith in
    let same_place : at + 0 ≡ at = omega arith in
    (is, subst (λ it. IsPieceSaid value_of task it next) (ap₂ (name_in stream) same_number same_place) said, tt)
documents_go_on value_of task stream number at (piece ∷ pieces) next (first, its, are) is said =
    let count : number + length (piece ∷ pieces) ≡ number + 1 + length pieces = omega arith in
    let both : length (octets_of (piece ∷ pieces)) ≡ length piece.octets + length (octets_of pieces) =
    length-append piece.octets (octets_of pieces) in
    let place : at + length (octets_of (piece ∷ pieces)) ≡ at + length piece.octets + length (octets_of pieces) =
    omega (arith, both) in (
      first,
      its,
      documents_go_on value_of task stream (number + 1) (at + length piece.octets) pieces next are is
          (subst (λ it. IsPieceSaid value_of task it next) (ap₂ (name_in stream) count place) said),
    )

first_taken : (before left : Option (List ℕ)) (octets behind : List ℕ) → Consumes before left (octets ++ behind)
    → (between : Option (List ℕ)) × Consumes before between octets
first_taken None left octets behind taken = (None, tt)
first_taken (Some old) None octets behind taken = absurd taken
first_taken (Some old) (Some new) octets behind taken = (Some (behind ++ new), taken ∙ append_assoc octets behind new)

-- nothing is done yet
pub begins : (value_of : Document → Value) (task : Task) (stream : List ℕ) (before old : Option (List ℕ))
    (tally : Tally) → tally ≡ tally_of [] → Consumes before before [] → Appends old old []
    → WentOn value_of task stream before before [] old old tally 0 0 1 []
begins value_of task stream before old tally none taken written = record {
  said = tt;
  taken = taken;
  written = written;
  tallied = none;
  counted = refl;
  placed = refl;
  numbered = refl;
}

module _ {value_of : Document → Value} {task : Task} {stream : List ℕ} {before : Option (List ℕ)}
    {old mid : Option (List ℕ)} {tally : Tally} {out at number : ℕ} {pieces : List Piece} where
  -- more octets are ahead
  pub took_next : {limits : Limits} {kinds : List Kind} {failed : Bool} {left further : Option (List ℕ)}
      {ahead now : List ℕ} {next : Coming}
      → WentOn value_of task stream before left ahead old mid tally out at number pieces
      → ComesNext limits kinds failed left further ahead now next
      → WentOn value_of task stream before further now old mid tally out at number pieces
  took_next {left = left} {further = further} {ahead = ahead} went comes = record {
    said = went.said;
    taken =
        subst (Consumes before further)
        (append_assoc (octets_of pieces) ahead comes.more ∙ ap (λ it. octets_of pieces ++ it) (sym comes.grown))
        (Consumes-trans before left further (octets_of pieces ++ ahead) comes.more went.taken comes.takes);
    written = went.written;
    tallied = went.tallied;
    counted = went.counted;
    placed = went.placed;
    numbered = went.numbered;
  }

  module _ {left : Option (List ℕ)} {ahead : List ℕ}
      (went : WentOn value_of task stream before left ahead old mid tally out at number pieces) (IsFailed : Type 0) where
    pieces_alone : (between : Option (List ℕ)) × Consumes before between (octets_of pieces)
    pieces_alone = first_taken before left (octets_of pieces) ahead went.taken

    -- it ends before the next one
    pub no_memory : EachSaid value_of task stream IsFailed before old mid pieces None ends.Memory
    no_memory = (went.said, tt, pieces_alone, went.written)

    pub unread : IsFailed → EachSaid value_of task stream IsFailed before old mid pieces None (ends.NoName Read)
    unread failed = (went.said, tt, pieces_alone, (went.written, failed))

    pub at_end : ahead ≡ [] → IsAtEnd left
        → EachSaid value_of task stream IsFailed before old mid pieces None (ends.Through tally)
    at_end none ends =
        let all : octets_of pieces ++ ahead ≡ octets_of pieces =
        ap (λ it. octets_of pieces ++ it) none ∙ append-nil (octets_of pieces) in
        let taken = subst (Consumes before left) all went.taken in
        (went.said, tt, (left, taken), ((left, taken, ends), went.written, went.tallied))

    pub too_many : 2 ^ 64 ≤ length pieces + 2
        → EachSaid value_of task stream IsFailed before old mid pieces None (ends.NoName TooMany)
    too_many many = (went.said, tt, pieces_alone, (went.written, inl many))

    module _ {name : List ℕ} (named : name ≡ name_in stream number at) (piece : Piece)
        (said : IsPieceSaid value_of task name piece) where
      said_there : IsPieceSaid value_of task (name_in stream (length pieces + 1) (length (octets_of pieces))) piece
      said_there =
          subst (λ it. IsPieceSaid value_of task it piece) (named ∙ ap₂ (name_in stream) went.numbered went.placed) said

      abbrev all : List Piece
      all = pieces ++ piece ∷ []

      -- what is out with what is said of it
      said_too : (last : Option (List ℕ)) (tally_new : Tally) (out_new : ℕ)
          → SaysPiece tally out mid last piece tally_new out_new
          → Appends old last (texts_of (entries_of all)) × (tally_new ≡ tally_of (verdicts_of (entries_of all)))
          × (out_new ≡ length (texts_of (entries_of all)))
      said_too last tally_new out_new says = (
        subst (Appends old last) (sym (text_after pieces piece))
            (Appends-trans old mid last (texts_of (entries_of pieces)) piece.entry.text went.written says.written),
        says.tallied (verdicts_of (entries_of pieces)) went.tallied ∙ ap tally_of (sym (verdict_after pieces piece)),
        says.counted ∙ ap (λ it. it + length piece.entry.text) went.counted
            ∙ sym (length-append (texts_of (entries_of pieces)) piece.entry.text)
            ∙ ap length (sym (text_after pieces piece)),
      )

      -- octets that no document begins end it
      pub other_ends : (last : Option (List ℕ)) (tally_new : Tally) (out_new : ℕ) → piece.octets ≡ ahead
          → IsSettled task.limits (kinds_for task.kind) left ahead → SaysPiece tally out mid last piece tally_new out_new
          → EachSaid value_of task stream IsFailed before old last pieces (Some piece) (ends.Through tally_new)
      other_ends last tally_new out_new are settled says =
          let so = said_too last tally_new out_new says in
          let taken : Consumes before left (octets_of all) =
          subst (Consumes before left) (sym (octets_after pieces piece ∙ ap (λ it. octets_of pieces ++ it) are)) went.taken in (
            went.said,
            said_there,
            (left, taken),
            ((left, taken, subst (IsSettled task.limits (kinds_for task.kind) left) (sym are) settled), so.0, so.1),
          )

      taken_so : (behind : List ℕ) → ahead ≡ piece.octets ++ behind
          → (between : Option (List ℕ)) × Consumes before between (octets_of all)
      taken_so behind are =
          first_taken before left (octets_of all) behind
          (subst (Consumes before left)
          (ap (λ it. octets_of pieces ++ it) are ∙ sym (append_assoc (octets_of pieces) piece.octets behind)
          ∙ ap (λ it. it ++ behind) (sym (octets_after pieces piece))) went.taken)

      -- what is said of the next octets, all that are ahead or some of them, isn't all out
      pub cut_short : (last : Option (List ℕ)) (behind : List ℕ) (end : FilesEnd) → ahead ≡ piece.octets ++ behind
          → StopsSaying out mid last piece end
          → EachSaid value_of task stream IsFailed before old last pieces (Some piece) end
      cut_short last behind (ends.Through other) are stops = elim stops [ ]
      cut_short last behind (ends.WriteFailed count) are (written, count_is, few, appended) =
          let first = texts_of (entries_of pieces) in
          let whole = texts_of (entries_of all) in
          let count_of : count ≡ length first + written = count_is ∙ ap (λ it. it + written) went.counted in
          let part : take count whole ≡ first ++ take written piece.entry.text =
          ap (λ it. take it whole) count_of ∙ ap (take (length first + written)) (text_after pieces piece)
          ∙ take-append-add first piece.entry.text written in
          let long : length whole ≡ length first + length piece.entry.text =
          ap length (text_after pieces piece) ∙ length-append first piece.entry.text in (
            went.said,
            said_there,
            taken_so behind are,
            (
              omega (arith, count_of, long, few),
              subst (Appends old last) (sym part)
                  (Appends-trans old mid last first (take written piece.entry.text) went.written appended),
            ),
          )
      cut_short last behind (ends.NoName why) are (why_is, many, same) =
          let first = texts_of (entries_of pieces) in
          let whole = texts_of (entries_of all) in
          let long : length whole ≡ length first + length piece.entry.text =
          ap length (text_after pieces piece) ∙ length-append first piece.entry.text in
          let counted : out ≡ length first = went.counted in
          subst (λ it. EachSaid value_of task stream IsFailed before old last pieces (Some piece) (ends.NoName it))
          (sym why_is) (
            went.said,
            said_there,
            taken_so behind are,
            (
              subst (λ it. Appends old it first) (sym same) went.written,
              inr (inr (omega (arith, many, counted, long))),
            ),
          )
      cut_short last behind ends.Memory are stops = elim stops [ ]

      -- the documents with it
      with_it : (count : ℕ) → piece.octets ≡ take count ahead
          → IsDocument task.limits (take count ahead) (kinds_for task.kind)
          → AreDocuments value_of task stream 1 0 all
      with_it count are is =
          let one_more : 1 + length pieces ≡ length pieces + 1 = omega arith in
          let none_before : 0 + length (octets_of pieces) ≡ length (octets_of pieces) = omega arith in
          documents_go_on value_of task stream 1 0 pieces piece went.said
          (subst (λ it. IsDocument task.limits it (kinds_for task.kind)) (sym are) is)
          (subst (λ it. IsPieceSaid value_of task it piece)
          (ap₂ (name_in stream) (sym one_more) (sym none_before)) said_there)

      -- it is a document, of which all is out, and can't be passed
      pub not_passed : (last : Option (List ℕ)) (tally_new : Tally) (out_new count : ℕ) → count ≤ length ahead
          → piece.octets ≡ take count ahead → IsDocument task.limits (take count ahead) (kinds_for task.kind)
          → SaysPiece tally out mid last piece tally_new out_new → (end : FilesEnd) → StopsPassing count at number end
          → EachSaid value_of task stream IsFailed before old last all None end
      not_passed last tally_new out_new count few are is says end stops =
          let so = said_too last tally_new out_new says in
          let split : ahead ≡ piece.octets ++ drop count ahead =
          sym (take-append-drop count ahead) ∙ ap (λ it. it ++ drop count ahead) (sym are) in
          let sized : length piece.octets ≡ count = ap length are ∙ length-take-le count ahead few in
          go (with_it count are is) (taken_so (drop count ahead) split) so.0 sized stops
        where
          both : length (octets_of all) ≡ length (octets_of pieces) + length piece.octets
          both = ap length (octets_after pieces piece) ∙ length-append (octets_of pieces) piece.octets

          uncounted : length piece.octets ≡ count → (2 ^ 64 ≤ at + count) ⊎ (2 ^ 64 ≤ number + 1) → IsUncounted all
          uncounted sized (inl far) =
              let placed : at ≡ length (octets_of pieces) = went.placed in
              inr (inl (omega (arith, far, placed, sized, both)))
          uncounted sized (inr many) =
              let numbered : number ≡ length pieces + 1 = went.numbered in
              let more : length all ≡ length pieces + 1 = length-append pieces (piece ∷ []) in
              inl (omega (arith, many, numbered, more))

          go : AreDocuments value_of task stream 1 0 all
              → (between : Option (List ℕ)) × Consumes before between (octets_of all)
              → Appends old last (texts_of (entries_of all)) → length piece.octets ≡ count
              → StopsPassing count at number end → EachSaid value_of task stream IsFailed before old last all None end
          go documents taken written sized (inl memory) =
              subst (EachSaid value_of task stream IsFailed before old last all None) (sym memory)
              (documents, tt, taken, written)
          go documents taken written sized (inr (is_many, many)) =
              subst (EachSaid value_of task stream IsFailed before old last all None) (sym is_many)
              (documents, tt, taken, (written, uncounted sized many))

      -- it is a document, and passed
      pub goes_further : (last : Option (List ℕ)) (tally_new : Tally) (out_new count : ℕ) → count ≤ length ahead
          → piece.octets ≡ take count ahead → IsDocument task.limits (take count ahead) (kinds_for task.kind)
          → SaysPiece tally out mid last piece tally_new out_new → (ahead_new : List ℕ) (at_new number_new : ℕ)
          → Passes count ahead at number ahead_new at_new number_new
          → WentOn value_of task stream before left ahead_new old last tally_new out_new at_new number_new all
      goes_further last tally_new out_new count few are is says ahead_new at_new number_new passes =
          let so = said_too last tally_new out_new says in
          let many : length all ≡ length pieces + 1 = length-append pieces (piece ∷ []) in
          let sized : length piece.octets ≡ count = ap length are ∙ length-take-le count ahead few in
          let both : length (octets_of all) ≡ length (octets_of pieces) + length piece.octets =
          ap length (octets_after pieces piece) ∙ length-append (octets_of pieces) piece.octets in
          let placed : at ≡ length (octets_of pieces) = went.placed in
          let numbered : number ≡ length pieces + 1 = went.numbered in
          let place : at_new ≡ at + count = passes.place in
          let next : number_new ≡ number + 1 = passes.next in
          let split : ahead ≡ piece.octets ++ ahead_new =
          sym (take-append-drop count ahead) ∙ ap₂ (λ first others. first ++ others) (sym are) (sym passes.octets) in
          record {
            said = with_it count are is;
            taken =
                subst (Consumes before left)
                (ap (λ it. octets_of pieces ++ it) split ∙ sym (append_assoc (octets_of pieces) piece.octets ahead_new)
                ∙ ap (λ it. it ++ ahead_new) (sym (octets_after pieces piece))) went.taken;
            written = so.0;
            tallied = so.1;
            counted = so.2;
            placed = omega (arith, place, placed, sized, both);
            numbered = omega (arith, next, numbered, many);
          }

    -- not all is out that is said of the next octets, or no memory is left for it
    pub stops_saying : {name : List ℕ} → name ≡ name_in stream number at → (octets behind : List ℕ)
        → ahead ≡ octets ++ behind → (last : Option (List ℕ)) (end : FilesEnd)
        → ((end ≡ ends.Memory) × (last ≡ mid))
        ⊎ ((piece : Piece) × (piece.octets ≡ octets) × IsPieceSaid value_of task name piece
        × StopsSaying out mid last piece end)
        → (said : List Piece) × (also : Option Piece) × EachSaid value_of task stream IsFailed before old last said also end
    stops_saying named octets behind are last end (inl (is, same)) = (
      pieces,
      None,
      subst (λ it. EachSaid value_of task stream IsFailed before old it pieces None end) (sym same)
          (subst (EachSaid value_of task stream IsFailed before old mid pieces None) (sym is) no_memory),
    )
    stops_saying named octets behind are last end (inr (piece, same, said, stops)) = (
      pieces,
      Some piece,
      cut_short named piece said last behind end (are ∙ ap (λ it. it ++ behind) (sym same)) stops,
    )
