-- The places of octets that are in pieces.
use Rattle.std.proofs.Common.{List, ap, arith, cond, drop, false, get_or, length, nat_lt, subst, sym, take, ℕ, [], ◌+◌, ◌-◌, ◌∙◌, ◌∷◌, ◌≡◌, ◌≤◌}
use Rattle.std.proofs.Math.Nat.{zero-add}
use Rattle.std.proofs.lemmas.List.{length-drop, take_all}
use Rattle.std.proofs.lemmas.Bool.Decides.{nat_tests}
use Rattle.explain.specs.Places.{Skips, place_of, sum_of}
use Rattle.explain.specs.declared.document.places.Piece.{Piece}

pub skip_none : (pieces : List Piece) → Skips pieces 0 pieces
skip_none pieces = λ number. ap (place_of pieces) (sym (zero-add number))

-- the one piece in which a file stands
abbrev pub whole : ℕ → List Piece
whole octets = record { at = 0; octets = octets } ∷ []

not_in_first : (octets number : ℕ) → nat_lt (octets + number) octets ≡ false
not_in_first octets number = grind (arith, nat_tests)

-- an octet after the first piece is in those after it
after_first : (piece : Piece) (after : List Piece) (number : ℕ)
    → place_of (piece ∷ after) (piece.octets + number) ≡ place_of after number
after_first piece after number =
    let less : (piece.octets + number) - piece.octets ≡ number = omega arith in
    ap
    (λ first.
    cond first (sum_of piece.at (piece.octets + number)) (place_of after ((piece.octets + number) - piece.octets)))
    (not_in_first piece.octets number) ∙ ap (place_of after) less

skip_first : (pieces : List Piece) (before : ℕ) (piece : Piece) (after : List Piece)
    → Skips pieces before (piece ∷ after) → Skips pieces (before + piece.octets) after
skip_first pieces before piece after skips =
    λ number.
    let joined : before + (piece.octets + number) ≡ (before + piece.octets) + number = omega arith in
    sym (after_first piece after number) ∙ (skips (piece.octets + number) ∙ ap (place_of pieces) joined)

abbrev pub no_piece : Piece
no_piece = record { at = 0; octets = 0 }

skip_one : (pieces : List Piece) (before : ℕ) (rest : List Piece) → 1 ≤ length rest → Skips pieces before rest
    → Skips pieces (before + (get_or rest 0 no_piece).octets) (drop 1 rest)
skip_one pieces before [] some skips = absurd (omega arith)
skip_one pieces before (piece ∷ after) some skips = skip_first pieces before piece after skips

rest_after : (rest : List Piece) → take (length rest - 1) (drop 1 rest) ≡ drop 1 rest
rest_after rest = take_all (length rest - 1) (drop 1 rest) (omega (arith, length-drop 1 rest))

-- one piece more is skipped
pub skip_next : (pieces : List Piece) (before : ℕ) (rest : List Piece) → 1 ≤ length rest → Skips pieces before rest
    → Skips pieces (before + (get_or rest 0 no_piece).octets) (take (length rest - 1) (drop 1 rest))
skip_next pieces before rest some skips =
    subst (λ after. Skips pieces (before + (get_or rest 0 no_piece).octets) after) (sym (rest_after rest))
    (skip_one pieces before rest some skips)

-- those after some are found from those after fewer
pub skip_later : (pieces : List Piece) (before : ℕ) (rest : List Piece) (count : ℕ) (here : List Piece)
    → Skips rest count here → Skips pieces before rest → Skips pieces (before + count) here
skip_later pieces before rest count here later skips =
    λ number.
    let joined : before + (count + number) ≡ (before + count) + number = omega arith in
    later number ∙ (skips (count + number) ∙ ap (place_of pieces) joined)
