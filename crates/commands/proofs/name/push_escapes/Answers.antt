use Rattle.std.proofs.Common.{rules, ◌∙◌, ◌++◌, [], ◌∷◌, append-nil, append_assoc, ap, map-id, string_bytes, sym}
use Rattle.std.proofs.lemmas.Iterator.{YieldsList-from_chars}
use Rattle.std.proofs.lemmas.Iterator.Consumers.{YieldsList-end}
use Rattle.std.proofs.lemmas.List.Concat.{flat_map-append}
use Rattle.std.specs.Char.Escape.{escape_default}
use Rattle.std.specs.List.{flat_map}
use Rattle.commands.proofs.name.push_escapes.Goals as goal

pub loop-c-init : goal.loop-c-init
loop-c-init c = sym (append-nil (string_bytes c.args.text.now))

pub loop-c-preserved : goal.loop-c-preserved
loop-c-preserved c =
    let more = flat_map-append escape_default c.loop-c.yielded (c.in-Some.c ∷ []) in
    search (rules, append_assoc, append-nil)

pub returns : goal.returns
returns c =
    let all = YieldsList-end (YieldsList-from_chars c.args.word.now c.utf8.word cc) c.loop-c.yielded _
    c.loop-c.yielded_by _ _ c.in-None.is c.next.ensures.steps in
    let whole = sym (map-id c.loop-c.yielded) ∙ all.0 in
    c.loop-c.invariant ∙ ap (λ cs. string_bytes c.args.text.now ++ flat_map escape_default cs) whole
