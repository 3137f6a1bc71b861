use Rattle.std.proofs.Common.{◌≡◌, ◌++◌, ◌≤◌, string_bytes}
use Rattle.std.specs.Char.Escape.{escape_ascii}
use Rattle.std.specs.Char.Iter.{escape_byte_end, escape_byte_rest}
use Rattle.commands.specs.Names.{IsPrintable}
use Rattle.commands.proofs.name.push_escaped_octet.Given as goal

abbrev pub invariant-loop-shown : goal.invariant-loop-shown
invariant-loop-shown l = record {
  appended :
      string_bytes l.text ++ escape_byte_rest l.shown-iterator ≡ string_bytes l.initial.text ++ escape_ascii l.fn.octet;
  plain : IsPrintable (escape_byte_rest l.shown-iterator);
  within : escape_byte_end l.shown-iterator ≤ 4;
}
