use Rattle.std.proofs.Common.{◌++◌, ◌∙◌, ap, codes}
use Rattle.commands.specs.Outcomes.{line_feed}
use Rattle.pkder.specs.CommandLines.{more, shown, tip}
use Rattle.pkder.proofs.refusal.BadValue.invalid_text.Goals as goal

pub returns : goal.returns
returns c =
    let bad = c.args.self in
    let to_value = c.in_ok-push_shown.ensures ∙ ap (λ t. t ++ shown bad.value.now) c.in_ok-text.ensures.ok in
    let to_for = c.in_ok-push_str.ensures.bytes ∙ ap (λ t. t ++ codes "' for '") to_value in
    let to_option = c.in_ok-push_str-2.ensures.bytes ∙ ap (λ t. t ++ bad.option.now) to_for in
    let to_colon = c.in_ok-push_str-3.ensures.bytes ∙ ap (λ t. t ++ codes "': ") to_option in
    let to_wanted = c.in_ok-push_str-4.ensures.bytes ∙ ap (λ t. t ++ bad.wanted.now) to_colon in
    let to_end = c.in_ok-push_str-5.ensures.bytes
    ∙ ap (λ t. t ++ (codes " is wanted" ++ line_feed ++ line_feed)) to_wanted in
    let to_tip = c.in_ok-push_tip.ensures ∙ ap (λ t. t ++ tip bad.advice.now) to_end in
    c.in_ok-push_str-6.ensures.bytes ∙ ap (λ t. t ++ more) to_tip
