-- What is seen of a source that keeps what it gives.
use Rattle.std.specs.Prelude.{ℕ, Bool, List, [], ◌∷◌, ◌++◌, ◌-◌, None, Option, Some, length, take}
use Rattle.std.specs.Vec.{vec_capacity, vec_len}
use Rattle.tlv_core.specs.declared.source.Source.{Ghosts}
use Rattle.asn_documents.specs.declared.keeping.Keeping.{Keeping}

abbrev pub reference : {R : Type 0} {s : Ghosts R} → Keeping R s → ℕ
reference keeping = keeping.src.ghost_name

abbrev pub source : {R : Type 0} {s : Ghosts R} → Keeping R s → R
source keeping = keeping.src.now

abbrev pub kept : {R : Type 0} {s : Ghosts R} → Keeping R s → List ℕ
kept keeping = keeping.kept.now.items

abbrev pub failed : {R : Type 0} {s : Ghosts R} → Keeping R s → Bool
failed keeping = keeping.failed

-- the octets that its source has at hand, as many as there is room for
abbrev pub held : {R : Type 0} {s : Ghosts R} → Keeping R s → List ℕ
held {R} {s} keeping =
    take (vec_capacity keeping.kept.now - vec_len keeping.kept.now) (s.at_hand keeping.src.now)

-- what was kept and what is still told, where it is told
abbrev pub whole : List ℕ → Option (List ℕ) → List ℕ
whole kept None = []
whole kept (Some left) = kept ++ left

-- the number of some numbers stands before them, so that they can be told from those after
abbrev pub framed : ℕ → List ℕ → List ℕ → List ℕ
framed name numbers behind = name ∷ (length numbers ∷ (numbers ++ behind))

-- No read changes which source it reads, nor what is kept and still told together, nor what no
-- read of that source changes.
abbrev pub frame : {R : Type 0} {s : Ghosts R} → Keeping R s → List ℕ
frame {R} {s} keeping =
    framed keeping.src.ghost_name (whole keeping.kept.now.items (s.remaining keeping.src.now)) (s.frame keeping.src.now)
