use Rattle.std.proofs.Common.{List, ap, arith, false, length, slice_index_or, ℕ, [], ◌<◌, ◌==◌, ◌≡◌, ◌≤◌, ◌∙◌, ◌∷◌}
use Rattle.pk_documents.specs.KindRows.{labels_of}
use Rattle.pk_documents.specs.declared.kind.Kind.{Kind}
use Rattle.pk_documents.specs.declared.kind.Kind.TheVariants.{Key}
use Rattle.explain.specs.TextGuesses.{label_among, label_of, or_label, other_label}
use Rattle.explain.proofs.guess.texts.+label_of.Goals as goal

-- of no kind
of_none : (kinds : List Kind) (text label : List ℕ) → length kinds < 1 → label ≡ other_label text
    → label ≡ label_of kinds text
of_none [] text label none is = is
of_none (kind ∷ later) text label none is = absurd (omega (arith, none))

-- of the first kind
of_first : (kinds : List Kind) (text label : List ℕ) (labels : List (List ℕ)) → 1 ≤ length kinds
    → labels ≡ labels_of (slice_index_or kinds 0 Key) → label ≡ label_among labels text → false ≡ (length label == 0)
    → label ≡ label_of kinds text
of_first [] text label labels some of_kind is full = absurd (omega (arith, some))
of_first (kind ∷ later) text [] labels some of_kind is full = absurd cc
of_first (kind ∷ later) text (octet ∷ octets) labels some of_kind is full =
    ap (λ label. or_label label (label_of later text)) (is ∙ ap (λ labels. label_among labels text) of_kind)

pub returns-in-empty : goal.returns-in-empty
returns-in-empty t c =
    of_none c.args.kinds.now c.args.text.now c.other_label.result.now c.in-empty.len_below c.other_label.ensures

pub returns-else-is_empty : goal.returns-else-is_empty
returns-else-is_empty t c =
    of_first c.args.kinds.now c.args.text.now c.label_among-label.result.now _ c.in-len1-up.len_at_least
    c.row.ensures.labels c.label_among-label.ensures c.if-is_empty.ensures
