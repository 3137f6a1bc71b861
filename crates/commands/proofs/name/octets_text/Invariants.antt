use Rattle.std.proofs.Common.{◌≡◌, ◌++◌, drop, string_bytes}
use Rattle.std.specs.Char.Escape.{escape_ascii}
use Rattle.std.specs.List.{flat_map}
use Rattle.commands.proofs.name.octets_text.Given as goal

abbrev pub invariant-loop-octet : goal.invariant-loop-octet
invariant-loop-octet l =
    string_bytes l.text ++ flat_map escape_ascii (drop l.octet-index l.octets)
    ≡ string_bytes l.initial.text ++ flat_map escape_ascii l.octets
