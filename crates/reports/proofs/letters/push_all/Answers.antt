use Rattle.std.proofs.Common.{◌++◌, ap, flat_map, map-id, string_bytes, sym, ◌∙◌}
use Rattle.std.proofs.lemmas.Iterator.{YieldsList-from_chars}
use Rattle.std.proofs.lemmas.Iterator.Consumers.{YieldsList-end}
use Rattle.reports.specs.Letters.{letter}
use Rattle.reports.proofs.letters.push_all.Goals as goal

pub returns : goal.returns
returns c =
    let end = YieldsList-end (YieldsList-from_chars c.args.string.now c.utf8.string cc) c.loop-c.yielded _ c.loop-c.yielded_by _ _ c.in-None.is c.next.ensures.steps in
    c.loop-c.invariant ∙ ap (λ it. string_bytes c.args.text.now ++ flat_map (letter c.args.in_name) it) (sym (map-id c.loop-c.yielded) ∙ end.0)
