-- What clauses see of the target for tests.
use Rattle.std.specs.Prelude.{ℕ, Bool, List, take, length}
use Rattle.rows.specs.declared.stops.Stops.{Stops}

-- the octets that were taken, in order
abbrev pub octets_taken : Stops → List ℕ
octets_taken target = take target.used target.room.items

-- as many octets are taken in all, at most
abbrev pub room_in_all : Stops → ℕ
room_in_all target = length target.room.items

-- as many octets are taken per write, at most
abbrev pub piece_taken : Stops → ℕ
piece_taken target = target.piece

abbrev pub stops_failed : Stops → Bool
stops_failed target = target.broken
