use Rattle.std.proofs.Common.{◌≡◌, ◌++◌, ◌≤◌, string_bytes}
use Rattle.std.specs.Char.Escape.{escape_default}
use Rattle.std.specs.Char.Iter.{escape_end, escape_rest}
use Rattle.commands.specs.Names.{IsPrintable}
use Rattle.commands.proofs.name.push_escaped.Given as goal

abbrev pub invariant-loop-shown : goal.invariant-loop-shown
invariant-loop-shown l = record {
  appended :
      string_bytes l.text ++ escape_rest l.shown-iterator ≡ string_bytes l.initial.text ++ escape_default l.fn.c;
  plain : IsPrintable (escape_rest l.shown-iterator);
  within : escape_end l.shown-iterator ≤ 10;
}
