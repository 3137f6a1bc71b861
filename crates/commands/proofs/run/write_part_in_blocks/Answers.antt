use Rattle.std.proofs.Common.{ap, le_of_eq, subst, sym}
use Rattle.asn_documents.specs.WrittenValues.{WritesText}
use Rattle.pk_documents.specs.RequestParts.{part_of}
use Rattle.pkcs10.specs.Requests.{request_value_of}
use Rattle.commands.specs.BlockTargets.{has_failed_under, held, target_of}
use Rattle.commands.specs.KnownOctets.{known_length}
use Rattle.commands.proofs.BlockTargets.{at_last, none_waits}
use Rattle.commands.proofs.run.write_part_in_blocks.Goals as goal

pub invariant_of-blocks-clause-no_shorter : goal.invariant_of-blocks-clause-no_shorter
invariant_of-blocks-clause-no_shorter g c = le_of_eq (ap known_length (sym c.requires.before))

pub returns-clause-writes : goal.returns-clause-writes
returns-clause-writes g c =
    let text = part_of c.args.part (request_value_of c.args.request.now) in
    let before = g.K.Start.before in
    let contents = g.W.Target.contents c.args.dst.now in
    let came = c.write_part-come.new.dst in
    let come = c.write_part-come.result in
    let last = c.close.new.self in
    let begun = subst (λ o. WritesText text o (held came) (has_failed_under came) come)
    (none_waits contents before c.requires.before) c.write_part-come.ensures in
    at_last (λ w. WritesText text contents (g.W.Target.contents w) (g.W.Target.has_failed w) c.close.result)
    (target_of c.close.new.self) _ c.into_target.ensures.now
    (subst (λ o. WritesText text o (g.W.Target.contents (target_of last)) (has_failed_under last) c.close.result)
    (sym c.requires.before) (c.close.ensures.out text begun))
