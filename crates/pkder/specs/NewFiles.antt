-- What clauses see of a file beside its place.
use Rattle.std.specs.Prelude.{◌*◌, ◌+◌, Bool, None, cond, string_bytes, ℕ}
use Rattle.commands.specs.MadeFiles.{Made}
use Rattle.pkder.specs.declared.new_file.FileBeside.{FileBeside}

-- what is in a file of the system isn't known
abbrev pub made_of : FileBeside → Made
made_of file = record { name = string_bytes file.name; is_private = file.private; stage = file.stage; octets = None }

-- read and written by its owner (6 in octal digits) and by nobody else, or by all
abbrev pub mode_of : Bool → ℕ
mode_of is_private = cond is_private (6 * 64) (6 * 64 + 6 * 8 + 6)
