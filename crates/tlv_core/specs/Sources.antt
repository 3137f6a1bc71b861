-- What clauses see of the sources.
use Rattle.std.specs.Prelude.{ℕ, Bool, List, [], None, Option, false, true}
use Rattle.std.specs.declared.io.Read.{Ghosts}
use Rattle.tlv_core.specs.declared.source.FromRead.{FromRead}

-- what no read changes, of a source that holds no reference to another one
abbrev pub no_frame : List ℕ
no_frame = []

-- the reader under the source
abbrev pub reader_of : {R : Type 0} {s : Ghosts R} → FromRead R s → R
reader_of source = source.inner

-- octets that have to be read, of a source that has none at hand
abbrev pub none_at_hand : List ℕ
none_at_hand = []

-- it tells the octets that its reader tells
abbrev pub is_telling : {R : Type 0} {s : Ghosts R} → FromRead R s → Bool
is_telling source = source.telling

abbrev pub told_by : Bool → Option (List ℕ) → Option (List ℕ)
told_by true told = told
told_by false told = None

abbrev pub read_failed : {R : Type 0} {s : Ghosts R} → FromRead R s → Bool
read_failed source = source.failed
