use Rattle.std.proofs.Common.{◌∙◌, map, subst, sym}
use Rattle.std.specs.Prelude.{string_bytes}
use Rattle.clap.specs.Words.{app_of, kind_of}
use Rattle.pkder.proofs.CommandLines.{invocation, refused}
use Rattle.pkder.proofs.OneCommand.{MeansSame, means_same}
use Rattle.pkder.proofs.line.invocation_of.Goals as goal

pub returns-in-Ok : goal.returns-in-Ok
returns-in-Ok c =
    let words = map (λ s. string_bytes s) c.args.words.now in
    invocation (app_of c.in_ok-command.command) words c.in-Ok.matches
    c.matched.result (sym c.are_for_reasons.ensures ∙ c.if-are_for_reasons.false)
    (subst (MeansSame words) (sym c.in_ok-command.ensures) (means_same words))
    c.in-Ok.ensures.matches c.in-Ok.ensures.kinds c.matched.ensures

pub returns-in_ok-fault_of-in-Err : goal.returns-in_ok-fault_of-in-Err
returns-in_ok-fault_of-in-Err c =
    let words = map (λ s. string_bytes s) c.args.words.now in
    refused (kind_of c.in-Err.error) (app_of c.in_ok-command.command) words
    c.in_ok-fault_of-in-Err.field-0 (sym c.are_for_reasons.ensures ∙ c.if-are_for_reasons.false)
    (subst (MeansSame words) (sym c.in_ok-command.ensures) (means_same words))
    c.in-Err.ensures.kinds c.in_ok-fault_of-in-Err.ensures
