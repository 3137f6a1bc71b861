use Rattle.std.proofs.Common.{◌∙◌, ◌≡◌, None, Some, false, map, rules, subst, sym, true}
use Rattle.std.proofs.lemmas.Result.{IfOk-weaker}
use Rattle.std.specs.List.{list_any}
use Rattle.std.specs.Prelude.{IfSome, string_bytes}
use Rattle.clap.specs.Words.{kind_of}
use Rattle.clap.proofs.WalkLemmas.{list_any-map}
use Rattle.clap.specs.declared.error.kind.ErrorKind.TheVariants as errors
use Rattle.pkder.specs.CommandLines.{command_advised, has_control, missing_line, option_advised}
use Rattle.pkder.proofs.CommandLines.{missing_due, missing_other, shows_command, shows_controls, shows_missing, shows_option}
use Rattle.pkder.proofs.refusal.refusal_text.Goals as goal

pub returns-then-have_controls : goal.returns-then-have_controls
returns-then-have_controls c =
    let words = map (λ s. string_bytes s) c.args.words.now in
    let has : list_any has_control words ≡ true =
    sym (list_any-map has_control (λ s. string_bytes s) c.args.words.now) ∙ sym c.have_controls.ensures
    ∙ c.if-have_controls.true in
    IfOk-weaker c.controls_text.result _ _
    (λ text is. shows_controls (kind_of c.args.error.now) words (string_bytes text) has is) c.controls_text.ensures

pub returns-in-Some : goal.returns-in-Some
returns-in-Some c =
    let words = map (λ s. string_bytes s) c.args.words.now in
    let none : list_any has_control words ≡ false =
    sym (list_any-map has_control (λ s. string_bytes s) c.args.words.now) ∙ sym c.have_controls.ensures
    ∙ c.if-have_controls.false in
    let is : Some (string_bytes c.in-Some.text) ≡ command_advised words = search rules in
    shows_command (kind_of c.args.error.now) words (string_bytes c.in-Some.text) none is

pub returns-in-Some-2 : goal.returns-in-Some-2
returns-in-Some-2 c =
    let words = map (λ s. string_bytes s) c.args.words.now in
    let none : list_any has_control words ≡ false =
    sym (list_any-map has_control (λ s. string_bytes s) c.args.words.now) ∙ sym c.have_controls.ensures
    ∙ c.if-have_controls.false in
    let first : None ≡ command_advised words = search rules in
    let is : Some (string_bytes c.in-Some-2.text) ≡ option_advised words = search rules in
    shows_option (kind_of c.args.error.now) words (string_bytes c.in-Some-2.text) none first is

pub returns-in-MissingRequiredArgument : goal.returns-in-MissingRequiredArgument
returns-in-MissingRequiredArgument c =
    let words = map (λ s. string_bytes s) c.args.words.now in
    let none : list_any has_control words ≡ false =
    sym (list_any-map has_control (λ s. string_bytes s) c.args.words.now) ∙ sym c.have_controls.ensures
    ∙ c.if-have_controls.false in
    let first : None ≡ command_advised words = search rules in
    let neither : None ≡ option_advised words = search rules in
    let kind : errors.MissingRequiredArgument ≡ kind_of c.args.error.now = search rules in
    IfOk-weaker c.missing_text.result _ _
    (λ text is. shows_missing (kind_of c.args.error.now) words (string_bytes text) none first neither
    (subst (λ k. IfSome (missing_line k words) (λ d. string_bytes text ≡ d)) kind
    (missing_due words (string_bytes text) is))) c.missing_text.ensures

pub returns-in_default-kind : goal.returns-in_default-kind
returns-in_default-kind c =
    let words = map (λ s. string_bytes s) c.args.words.now in
    let none : list_any has_control words ≡ false =
    sym (list_any-map has_control (λ s. string_bytes s) c.args.words.now) ∙ sym c.have_controls.ensures
    ∙ c.if-have_controls.false in
    let first : None ≡ command_advised words = search rules in
    let neither : None ≡ option_advised words = search rules in
    let other : kind_of c.args.error.now ≡ errors.MissingRequiredArgument → ⊥ =
    λ is. c.in_default-kind.not-MissingRequiredArgument (c.kind.ensures ∙ is) in
    IfOk-weaker c.to_string.result _ _
    (λ text is. shows_missing (kind_of c.args.error.now) words (string_bytes text) none first neither
    (missing_other (kind_of c.args.error.now) words _ other)) c.to_string.ensures.ok
