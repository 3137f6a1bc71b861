use Rattle.std.proofs.Common.{◌∙◌, ◌<◌, ◌≡◌, Some, ap, arith, refl, rules, sym}
use Rattle.std.proofs.lemmas.Option.{slice_get_read}
use Rattle.std.specs.Prelude.{length, option_map, slice_get, string_bytes}
use Rattle.pkder.specs.CommandLines.{advice_for_command, advised_line}
use Rattle.pkder.proofs.CommandLines.{second_advised}
use Rattle.pkder.proofs.refusal.command_text.Goals as goal

pub returns-in_ok-advised_text-in-Some : goal.returns-in_ok-advised_text-in-Some
returns-in_ok-advised_text-in-Some c =
    let words = c.args.words.now in
    let word = c.word-item.result in
    let within : 1 < length words = omega (arith, c.in-len2-up.len_at_least) in
    let at : slice_get words 1 ≡ Some word = slice_get_read words (length words) 1 word refl within c.word-item.is in
    let advice : Some c.in-Some.advice.now ≡ advice_for_command (string_bytes word) = search rules in
    let line : string_bytes c.in_ok-advised_text-in-Some.field-0
    ≡ advised_line (string_bytes word) c.in-Some.advice.now =
    search rules in
    ap Some line ∙ ap (option_map (advised_line (string_bytes word))) advice
    ∙ sym (second_advised words word at)
