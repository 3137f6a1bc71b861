-- The first notes of all.
use Rattle.std.proofs.Common.{List, [], None, Option, Some, ap, append_assoc, arith, drop, get_or, inl, inr, length, length-append, refl, sym, take, ℕ, ◌+◌, ◌++◌, ◌∙◌, ◌∷◌, ◌<◌, ◌≡◌, ◌≤◌}
use Rattle.std.specs.Prelude.{nat_lt, true, false}
use Rattle.std.proofs.lemmas.Bool.{cases_lt, le-ltb, lt-ltb}
use Rattle.std.proofs.lemmas.List.{append-nil, drop_more, take-append-le, take_all}
use Rattle.explain.specs.Notes.{add_note, context_after, most_notes, note_on, notes_from, remark_on, remark_on_repeat}
use Rattle.explain.specs.NotedTls.{tls_remark_on}
use Rattle.explain.specs.ProfileNotes.{tls_context_after, tls_notes_from}
use Rattle.explain.specs.declared.notes.Context.{Context}
use Rattle.explain.specs.declared.notes.tls.TlsContext.{TlsContext}
use Rattle.reports.specs.declared.report.Line.{Line}
use Rattle.reports.specs.declared.report.Note.{Note}
use Rattle.reports.specs.declared.report.Remark.{Remark}

note_alone : (number : ℕ) (remark : Option Remark) → length (note_on number remark) ≤ 1
note_alone number None = omega arith
note_alone number (Some remark) = omega arith

pub few_more : (notes : List Note) (number : ℕ) (remark : Option Remark) → length notes ≤ most_notes
    → length (add_note notes number remark) ≤ most_notes
few_more notes number remark h =
    elim (cases_lt (length notes) most_notes) [
      | inl l ↦ let e : nat_lt (length notes) most_notes ≡ true = lt-ltb (length notes) most_notes l in
          rw (e, length-append notes (note_on number remark)) (omega (arith, note_alone number remark))
      | inr g ↦ let e : nat_lt (length notes) most_notes ≡ false = le-ltb (length notes) most_notes g in rw e h
    ]

-- what is added where there is room is what comes next
pub next_taken : (notes after : List Note) (number : ℕ) (remark : Option Remark)
    → take most_notes (add_note notes number remark ++ after)
    ≡ take most_notes (notes ++ (note_on number remark ++ after))
next_taken notes after number remark =
    elim (cases_lt (length notes) most_notes) [
      | inl l ↦ let e : nat_lt (length notes) most_notes ≡ true = lt-ltb (length notes) most_notes l in
          rw (e, append_assoc notes (note_on number remark) after) refl
      | inr g ↦ let e : nat_lt (length notes) most_notes ≡ false = le-ltb (length notes) most_notes g in
          rw (
            e,
            take-append-le most_notes notes after g,
            take-append-le most_notes notes (note_on number remark ++ after) g,
          ) refl
    ]

-- the notes from a line on are those on it and those from the next one on
next_line : (lines : List Line) (number : ℕ) (line : Line) (context next : Context) (first second : Option Remark)
    → number < length lines → line ≡ get_or lines number line
    → first ≡ remark_on lines context line (drop (number + 1) lines)
    → second ≡ remark_on_repeat context.extension lines (take number lines) line → next ≡ context_after context line
    → notes_from lines context number (drop number lines)
    ≡ note_on number first ++ (note_on number second ++ notes_from lines next (number + 1) (drop (number + 1) lines))
next_line lines number line context next first second h e f s n =
    let d : drop number lines ≡ line ∷ drop (number + 1) lines =
    drop_more lines number line h ∙ ap (λ (x : Line). x ∷ drop (number + 1) lines) (sym e) in
    rw (d, f, s, n) (append_assoc (note_on number (remark_on lines context line (drop (number + 1) lines)))
    (note_on number (remark_on_repeat context.extension lines (take number lines) line))
    (notes_from lines (context_after context line) (number + 1) (drop (number + 1) lines)))

pub one_line : (lines : List Line) (number : ℕ) (line : Line) (context next : Context) (first second : Option Remark)
    (notes mid new answer : List Note) → number < length lines → line ≡ get_or lines number line
    → first ≡ remark_on lines context line (drop (number + 1) lines)
    → second ≡ remark_on_repeat context.extension lines (take number lines) line → next ≡ context_after context line
    → mid ≡ add_note notes number first → new ≡ add_note mid number second
    → take most_notes (notes ++ notes_from lines context number (drop number lines)) ≡ answer
    → take most_notes (new ++ notes_from lines next (number + 1) (drop (number + 1) lines)) ≡ answer
one_line lines number line context next first second notes mid new answer h e f s n m w is =
    let rest : List Note = notes_from lines next (number + 1) (drop (number + 1) lines) in
    let after : List Note = note_on number second ++ rest in
    ap (λ some. take most_notes (some ++ rest)) w ∙ next_taken mid rest number second
    ∙ ap (λ some. take most_notes (some ++ after)) m ∙ next_taken notes after number first
    ∙ ap (λ some. take most_notes (notes ++ some))
    (sym (next_line lines number line context next first second h e f s n))
    ∙ is

-- the notes for TLS servers from a line on are that on it and those from the next one on
next_tls_line : (lines : List Line) (number : ℕ) (line : Line) (context next : TlsContext) (remark : Option Remark)
    → number < length lines → line ≡ get_or lines number line
    → remark ≡ tls_remark_on lines context line (drop (number + 1) lines)
    → next ≡ tls_context_after lines context line (drop (number + 1) lines)
    → tls_notes_from lines context number (drop number lines)
    ≡ note_on number remark ++ tls_notes_from lines next (number + 1) (drop (number + 1) lines)
next_tls_line lines number line context next remark h e r n =
    let d : drop number lines ≡ line ∷ drop (number + 1) lines =
    drop_more lines number line h ∙ ap (λ (x : Line). x ∷ drop (number + 1) lines) (sym e) in
    rw (d, r, n) refl

pub one_tls_line : (lines : List Line) (number : ℕ) (line : Line) (context next : TlsContext)
    (remark : Option Remark) (notes new answer : List Note) → number < length lines
    → line ≡ get_or lines number line → remark ≡ tls_remark_on lines context line (drop (number + 1) lines)
    → next ≡ tls_context_after lines context line (drop (number + 1) lines) → new ≡ add_note notes number remark
    → take most_notes (notes ++ tls_notes_from lines context number (drop number lines)) ≡ answer
    → take most_notes (new ++ tls_notes_from lines next (number + 1) (drop (number + 1) lines)) ≡ answer
one_tls_line lines number line context next remark notes new answer h e r n w is =
    let rest : List Note = tls_notes_from lines next (number + 1) (drop (number + 1) lines) in
    ap (λ some. take most_notes (some ++ rest)) w ∙ next_taken notes rest number remark
    ∙ ap (λ some. take most_notes (notes ++ some)) (sym (next_tls_line lines number line context next remark h e r n))
    ∙ is

-- where nothing is left to note, the notes are all
pub all_taken : (notes rest answer : List Note) → rest ≡ [] → length notes ≤ most_notes
    → take most_notes (notes ++ rest) ≡ answer → notes ≡ answer
all_taken notes rest answer none few is =
    sym (take_all most_notes notes few) ∙ ap (take most_notes) (sym (append-nil notes))
    ∙ ap (λ some. take most_notes (notes ++ some)) (sym none)
    ∙ is
