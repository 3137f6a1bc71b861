-- What is seen of a source over a buffered reader, and the room that such a one has.
use Rattle.std.specs.Prelude.{ℕ, Bool, List, Option, max, min, zero, suc}
use Rattle.std.specs.Io.Buffered.{reader_buffer, reader_remaining}
use Rattle.std.specs.declared.alloc.Global.{Global}
use Rattle.std.specs.declared.io.Read.{Ghosts}
use Rattle.std.specs.declared.io.buffered.BufReader.{BufReader}
use Rattle.commands.specs.declared.from_buffer.FromBuffer.{FromBuffer}

-- the reader under the source
abbrev pub reader_of : {R : Type 0} {s : Ghosts R} → FromBuffer R s → BufReader R Global
reader_of source = source.inner

-- the octets that its reader tells: those read ahead, and those after them
abbrev pub left_in_reader : {R : Type 0} {s : Ghosts R} → FromBuffer R s → Option (List ℕ)
left_in_reader {R} {s} source = reader_remaining s.remaining source.inner

-- the octets that were read ahead
abbrev pub read_ahead : {R : Type 0} {s : Ghosts R} → FromBuffer R s → List ℕ
read_ahead source = reader_buffer source.inner

-- it tells the octets that its reader tells
abbrev pub is_telling : {R : Type 0} {s : Ghosts R} → FromBuffer R s → Bool
is_telling source = source.telling

abbrev pub read_failed : {R : Type 0} {s : Ghosts R} → FromBuffer R s → Bool
read_failed source = source.failed

-- the room for what a file has of so many octets, if its length is known
abbrev pub room_for : ℕ → ℕ
room_for zero = 8192
room_for (suc length) = max 512 (min (suc length) 8192)
