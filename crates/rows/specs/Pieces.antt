-- What clauses see of the source for tests.
use Rattle.std.specs.Prelude.{ℕ, Bool, List}
use Rattle.rows.specs.declared.pieces.Pieces.{Pieces}

-- the octets that are still to be given
abbrev pub octets_left : Pieces → List ℕ
octets_left source = source.left.now

abbrev pub pieces_failed : Pieces → Bool
pieces_failed source = source.broken

-- as many octets are given per read, at most
abbrev pub piece_size : Pieces → ℕ
piece_size source = source.piece

abbrev pub fails_at_end : Pieces → Bool
fails_at_end source = source.fails
