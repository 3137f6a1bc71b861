-- What clauses see of a name in front of a line.
use Rattle.std.specs.Prelude.{List, string_bytes, ℕ}
use Rattle.commands.specs.declared.lines.NamedLine.{NamedLine}

-- the name as it is shown
abbrev pub name_of_line : NamedLine → List ℕ
name_of_line named = string_bytes named.text
