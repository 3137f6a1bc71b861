use Rattle.std.proofs.Common.{Some, refl, subst, sym}
use Rattle.std.specs.Option.{option_map}
use Rattle.pk_documents.proofs.DocumentValues.{valued}
use Rattle.commands.specs.Replies.{RepliedBy, RepliedOn}
use Rattle.commands.proofs.run.run.Goals as goal

pub returns-in-Some-clause-replied : goal.returns-in-Some-clause-replied
returns-in-Some-clause-replied g c =
    let t = c.args.task.now in
    let file = option_map (λ r. r.now) c.args.file in
    let before = g.R.Source.remaining c.args.src.now in
    let after = g.R.Source.remaining c.run_on_kind.new.src in
    let old = g.W.Target.contents c.args.dst.now in
    let new = g.W.Target.contents c.run_on_kind.new.dst in
    let outcome = c.run_on_kind.result in
    let kind = c.in-Some.kind in
    subst (λ k. RepliedOn valued t.action file k t.limits outcome (Some kind) before after old new) (sym c.in-Some.is) (
      subst (λ a. RepliedBy valued a file kind t.limits outcome before after old new) c.task_on.ensures.action
          (subst (λ k. RepliedBy valued c.task_on.result.action file k t.limits outcome before after old new)
          c.task_on.ensures.kind
          (subst (λ l. RepliedBy valued c.task_on.result.action file c.task_on.result.kind l outcome before after old new)
          c.task_on.ensures.limits c.run_on_kind.ensures.replied)),
      refl,
    )

pub returns-in-None-clause-replied : goal.returns-in-None-clause-replied
returns-in-None-clause-replied g c =
    let t = c.args.task.now in
    let file = option_map (λ r. r.now) c.args.file in
    let before = g.R.Source.remaining c.args.src.now in
    let after = g.R.Source.remaining c.run_on_any.new.src in
    let old = g.W.Target.contents c.args.dst.now in
    let new = g.W.Target.contents c.run_on_any.new.dst in
    subst (λ k. RepliedOn valued t.action file k t.limits c.run_on_any.result.outcome
    c.run_on_any.result.kind before after old new) (sym c.in-None.is)
    c.run_on_any.ensures.replied
