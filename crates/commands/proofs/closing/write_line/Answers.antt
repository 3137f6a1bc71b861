use Rattle.std.proofs.Common.{Err, arith, sym}
use Rattle.std.proofs.KnownBytes.{Appends-nil}
use Rattle.commands.proofs.closing.write_line.Goals as goal

-- none of the line is out, and the target has failed
pub returns-else-not-failed : goal.returns-else-not-failed
returns-else-not-failed g c =
    let none = Appends-nil (g.W.Target.contents c.args.dst.now) in
    (Err (record { written = 0 }), (omega arith, none, sym c.if-not-failed.ensures))
