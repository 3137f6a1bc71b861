use Rattle.std.proofs.Common.{codes, false, refl, rules, subst, ◌≡◌}
use Rattle.clap.specs.Words.{found_of, rows_of}
use Rattle.explain.specs.declared.profile.Profile.TheVariants.{General}
use Rattle.commands.specs.declared.task.Refuse.TheVariants.{Nothing}
use Rattle.pkder.specs.CommandLines.{ReadsNotedProfile, ReadsRefuse, is_for_tls, is_given, refuses}
use Rattle.pkder.proofs.CommandLines.{for_anything, nothing_refused}
use Rattle.pkder.proofs.line.check_action.Goals as goal

pub returns : goal.returns
returns c =
    let rows = rows_of (found_of c.args.options.now) in
    let refuse = c.args.noting.refuse in
    let profile = c.args.noting.profile in
    let none : refuses refuse ≡ false = search rules in
    let general : is_for_tls profile ≡ false = search rules in
    let flag : is_given (codes "notes") rows ≡ false = search rules in
    let nothing : ReadsRefuse rows Nothing =
    subst (λ it. ReadsRefuse rows it) (nothing_refused refuse none) c.requires.3 in
    let anything : ReadsNotedProfile rows General =
    subst (λ it. ReadsNotedProfile rows it) (for_anything profile general) c.requires.4 in
    (refl, (c.requires.0, c.requires.1, c.requires.2, nothing, anything, flag))
