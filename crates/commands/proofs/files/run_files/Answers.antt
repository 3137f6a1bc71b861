use Rattle.std.proofs.Common.{[], arith, inl, inr, refl}
use Rattle.std.proofs.KnownBytes.{Appends-nil}
use Rattle.pk_documents.proofs.DocumentValues.{valued}
use Rattle.commands.specs.Files.{IsLeft}
use Rattle.commands.specs.declared.names.NamesFault.TheVariants.{TooMany}
use Rattle.commands.proofs.Entries.{begins, no_name}
use Rattle.commands.proofs.NameLists.{no_names}
use Rattle.commands.specs.NameLists.{HasStopped}
use Rattle.commands.proofs.files.run_files.Goals as goal

pub loop-init : goal.loop-init
loop-init g c =
    let list = g.N.Names.left c.args.names.now in
    let contents = g.W.Target.contents c.args.dst.now in
    record {
      went = (
        [],
        refl,
        begins valued (g.O.Opener.known c.args.opener.now) (g.O.Opener.refuses c.args.opener.now)
            (IsLeft g.O.Document.Source.has_failed g.O.Document.Source.remaining) c.args.task.now
            list contents c.new.result c.new.ensures (no_names list) (Appends-nil contents),
      );
      live = c.requires.writable;
    }

pub next_file-requires : goal.next_file-requires
next_file-requires g c = record { writable = c.loop.invariant.live }

pub returns-in-Err-clause-known : goal.returns-in-Err-clause-known
returns-in-Err-clause-known g c =
    let went = c.loop.invariant.went in
    c.in-Err.ensures.known went.0 (g.N.Names.left c.args.names.now) (g.W.Target.contents c.args.dst.now) went.2

pub loop-preserved : goal.loop-preserved
loop-preserved g c =
    let went = c.loop.invariant.went in
    let further =
    c.in-Ok.ensures.known went.0 (g.N.Names.left c.args.names.now) (g.W.Target.contents c.args.dst.now) went.2 in
    record {
      went = (further.0, omega (arith, further.1, went.1), further.2);
      live = c.in-Ok.ensures.failed;
    }

pub returns-clause-known : goal.returns-clause-known
returns-clause-known g c =
    let went = c.loop.invariant.went in
    let stops = HasStopped g.N.Names.left g.N.Names.stops c.loop.names in
    no_name valued (g.O.Opener.known c.args.opener.now) (g.O.Opener.refuses c.args.opener.now)
    (IsLeft g.O.Document.Source.has_failed g.O.Document.Source.remaining) c.args.task.now
    (g.N.Names.left c.args.names.now) (g.N.Names.left c.loop.names) stops
    (g.W.Target.contents c.args.dst.now) (g.W.Target.contents c.loop.dst)
    c.loop.progress.tally c.loop.progress.out went.0 went.2 TooMany (inr (refl, inl (omega (arith, went.1))))
