use Rattle.std.proofs.Common.{◌∙◌, ap, le_of_eq, refl, subst, sym, take}
use Rattle.std.proofs.KnownBytes.{Appends-kept}
use Rattle.std.proofs.Math.Seq.{take-length}
use Rattle.std.specs.Io.KnownBytes.{Appends}
use Rattle.asn_documents.specs.WrittenValues.{WritesText}
use Rattle.commands.specs.BlockTargets.{has_failed_under, held, target_of, waiting}
use Rattle.commands.proofs.BlockTargets.{first_out}
use Rattle.commands.proofs.block_target.BlockTarget.close.Goals as goal

pub returns-in-Err-hand_on-clause-out : goal.returns-in-Err-hand_on-clause-out
returns-in-Err-hand_on-clause-out g c = λ text writes.
    let before = g.K.Start.before in
    let first = c.args.self.now in
    let last = c.hand_on.new.self in
    let came = subst (WritesText text before (held first) (has_failed_under first)) c.in-Ok.is writes in
    let all = Appends-kept before (held first) (held last) text came.1 c.hand_on.ensures.kept in
    let out = first_out before (g.W.Target.contents (target_of last)) (waiting last) text c.in-Ok.count
    c.out_of.result.written last.no_shorter (le_of_eq came.0) c.out_of.ensures
    (subst (Appends before (held last)) (sym (ap (λ n. take n text) came.0 ∙ take-length text)) all) in
    (out.0, out.1, c.in-Err-hand_on.ensures.failed.0 refl)

pub returns-in-Err-clause-out : goal.returns-in-Err-clause-out
returns-in-Err-clause-out g c = λ text writes.
    let before = g.K.Start.before in
    let first = c.args.self.now in
    let came = subst (WritesText text before (held first) (has_failed_under first)) c.in-Err.is writes in
    let out = first_out before (g.W.Target.contents (target_of first)) (waiting first) text c.in-Err.error.written
    c.out_of-in-Err.result.written first.no_shorter came.0 c.out_of-in-Err.ensures came.1 in
    (out.0, out.1, came.2)
