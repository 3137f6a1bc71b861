use Rattle.std.proofs.Common.{[], List, None, Option, ap, arith, length, length-append, refl, subst, sym, true, ℕ, ◌+◌, ◌++◌, ◌∙◌, ◌∷◌, ◌≡◌}
use Rattle.std.specs.Borrow.{Bor}
use Rattle.std.proofs.KnownBytes.{Appends-nil, Consumes-nil}
use Rattle.pk_documents.proofs.DocumentValues.{valued}
use Rattle.commands.specs.Each.{EachSaid, Piece, WentOn}
use Rattle.commands.specs.declared.files.FilesEnd.TheVariants as ends
use Rattle.commands.specs.declared.names.NamesFault.TheVariants.{TooMany}
use Rattle.commands.proofs.EachSteps.{begins, too_many}
use Rattle.commands.proofs.each.run_each.Goals as goal

pub loop-init : goal.loop-init
loop-init g c =
    let before = g.R.Source.remaining c.args.src in
    let contents = g.W.Target.contents c.args.dst.now in
    record {
      went = (
        [],
        refl,
        subst
            (λ ahead. WentOn valued c.args.task.now c.args.name.now before before ahead contents contents
            c.new-2.result 0 0 1 []) (sym c.new.ensures.items)
            (begins valued c.args.task.now c.args.name.now before contents c.new-2.result c.new-2.ensures
            (Consumes-nil before) (Appends-nil contents)),
      );
      named = refl;
      live = c.requires.readable;
      writable = c.requires.writable;
    }

pub next_document-requires : goal.next_document-requires
next_document-requires g c = record {
  readable = c.loop.invariant.live;
  writable = c.loop.invariant.writable;
}

pub returns-in-Err-clause-said : goal.returns-in-Err-clause-said
returns-in-Err-clause-said g c =
    let went = c.loop.invariant.went in
    subst
    (λ name. (pieces : List Piece) × (last : Option Piece)
    × EachSaid valued c.args.task.now name ((source : _) × (g.R.Source.has_failed source ≡ true))
    (g.R.Source.remaining c.args.src) (g.W.Target.contents c.args.dst.now)
    (g.W.Target.contents c.next_document.new.dst) pieces last c.in-Err.end) c.loop.invariant.named
    (c.in-Err.ensures.steps (g.R.Source.remaining c.args.src) (g.W.Target.contents c.args.dst.now) went.0 went.2)

pub loop-preserved : goal.loop-preserved
loop-preserved g c =
    let went = c.loop.invariant.went in
    let before = g.R.Source.remaining c.args.src in
    let old = g.W.Target.contents c.args.dst.now in
    let stream = c.next_document.new.stream in
    let further = c.in-Ok.ensures.steps before old went.0 went.2 in
    let more : length (went.0 ++ further.0 ∷ []) ≡ length went.0 + 1 = length-append went.0 (further.0 ∷ []) in
    record {
      went = (
        went.0 ++ further.0 ∷ [],
        omega (arith, more, went.1),
        subst
            (λ (name : Bor (List ℕ)). WentOn valued c.args.task.now name.now before
            (g.R.Source.remaining stream.src) stream.ahead.items old (g.W.Target.contents c.next_document.new.dst)
            c.in-Ok.further.tally c.in-Ok.further.out stream.at stream.number (went.0 ++ further.0 ∷ []))
            (sym c.in-Ok.ensures.name) further.1,
      );
      named = ap (λ (name : Bor (List ℕ)). name.now) c.in-Ok.ensures.name ∙ c.loop.invariant.named;
      live = c.in-Ok.ensures.readable;
      writable = c.in-Ok.ensures.failed;
    }

pub returns-clause-said : goal.returns-clause-said
returns-clause-said g c =
    let went = c.loop.invariant.went in
    subst
    (λ name. (pieces : List Piece) × (last : Option Piece)
    × EachSaid valued c.args.task.now name ((source : _) × (g.R.Source.has_failed source ≡ true))
    (g.R.Source.remaining c.args.src) (g.W.Target.contents c.args.dst.now) (g.W.Target.contents c.loop.dst) pieces
    last (ends.NoName TooMany)) c.loop.invariant.named (
      went.0,
      None,
      too_many went.2 ((source : _) × (g.R.Source.has_failed source ≡ true)) (omega (arith, went.1)),
    )
