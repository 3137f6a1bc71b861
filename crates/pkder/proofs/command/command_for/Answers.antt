use Rattle.std.proofs.Common.{◌∙◌, ◌<◌, ◌≡◌, None, Some, ap, ap₂, arith, length, refl, sym}
use Rattle.std.proofs.lemmas.Option.{slice_get_read}
use Rattle.std.proofs.lemmas.Result.{IfOk-weaker}
use Rattle.std.specs.List.{find}
use Rattle.std.specs.Str.{bytes_eq}
use Rattle.std.specs.Prelude.{option_map, slice_get, string_bytes}
use Rattle.clap.specs.Words.{with_subcommand}
use Rattle.pkder.specs.CommandLines.{command_named, program_with}
use Rattle.pkder.specs.Tables.{shape_in}
use Rattle.pkder.proofs.OneCommand.{program_of_none, program_of_word}
use Rattle.pkder.proofs.command.command_for.Goals as goal

pub returns-in_default : goal.returns-in_default
returns-in_default c =
    IfOk-weaker c.command.result _ _
    (λ r h. h ∙ program_of_none c.args.words.now (omega (arith, c.in_default.len_below)))
    c.command.ensures

pub returns-in_ok-one-in-Some : goal.returns-in_ok-one-in-Some
returns-in_ok-one-in-Some c =
    let words = c.args.words.now in
    let word = c.word-item.result in
    let within : 1 < length words = omega (arith, c.in-len2-up.len_at_least) in
    let at : slice_get words 1 ≡ Some word = slice_get_read words (length words) 1 word refl within c.word-item.is in
    let named : Some (shape_in c.in-Some.row.now) ≡ command_named (string_bytes word) =
    sym (ap (option_map (λ it. shape_in it.now)) c.in-Some.is)
    ∙ c.named.ensures
    ∙ ap₂ (λ name shapes. find (λ shape. bytes_eq name shape.name) shapes) c.as_str.ensures.value c.subcommands.ensures in
    IfOk-weaker c.subcommand-in-Some.result _ _
    (λ r h. h.shape c.in_ok-one-in-Some.ensures.local
    ∙ ap₂ with_subcommand c.pkder.ensures c.in_ok-one-in-Some.ensures.shape
    ∙ ap program_with named ∙ program_of_word words word at)
    c.subcommand-in-Some.ensures

pub returns-in-None : goal.returns-in-None
returns-in-None c =
    let words = c.args.words.now in
    let word = c.word-item.result in
    let within : 1 < length words = omega (arith, c.in-len2-up.len_at_least) in
    let at : slice_get words 1 ≡ Some word = slice_get_read words (length words) 1 word refl within c.word-item.is in
    let none : None ≡ command_named (string_bytes word) =
    sym (ap (option_map (λ it. shape_in it.now)) c.in-None.is)
    ∙ c.named.ensures
    ∙ ap₂ (λ name shapes. find (λ shape. bytes_eq name shape.name) shapes) c.as_str.ensures.value c.subcommands.ensures in
    IfOk-weaker c.command-in-None.result _ _
    (λ r h. h ∙ ap program_with none ∙ program_of_word words word at) c.command-in-None.ensures
