use Rattle.std.proofs.Common.{◌∙◌, ◌++◌, ◌≤◌, ap, subst, sym}
use Rattle.std.specs.Char.Iter.{escape_end, escape_rest}
use Rattle.std.specs.Prelude.{string_bytes}
use Rattle.commands.specs.Names.{IsPrintable}
use Rattle.commands.proofs.Escapes.{escape_plain, goes_on, plain_first, plain_others}
use Rattle.commands.proofs.name.push_escaped.Goals as goal

pub loop-shown-init : goal.loop-shown-init
loop-shown-init c =
    let items = c.escape_default-shown-items.ensures in
    let same = c.into_iter-shown-iterator.ensures.into_iter_gives in
    record {
      appended = ap (λ rest. string_bytes c.args.text.now ++ rest) (ap escape_rest same ∙ items.rest);
      plain = subst IsPrintable (sym (ap escape_rest same ∙ items.rest)) (escape_plain c.args.c);
      within = subst (λ it. escape_end it ≤ 10) (sym same) items.bound;
    }

pub loop-shown-preserved : goal.loop-shown-preserved
loop-shown-preserved c =
    let before = escape_rest c.loop-shown.shown-iterator in
    let after = escape_rest c.next.new.self in
    let held = c.loop-shown.invariant in
    let steps = c.in-Some.ensures.steps in
    let first = plain_first before after c.in-Some.shown steps.1.0 held.plain in
    record {
      appended =
          goes_on (string_bytes c.loop-shown.text) (string_bytes c.push.new.self) before after c.in-Some.shown first
          steps.1.0 c.in_ok-push.ensures.bytes ∙ held.appended;
      plain = plain_others before after c.in-Some.shown steps.1.0 held.plain;
      within = subst (λ n. n ≤ 10) (sym steps.0) held.within;
    }
