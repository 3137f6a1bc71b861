use Rattle.std.proofs.Common.{arith}
use Rattle.x690.specs.TypeTerms.{OpenType}
use Rattle.ber_pull.proofs.Hearing.{hears_as}
use Rattle.asn_elements.specs.Reading.{read_given}
use Rattle.asn_elements.proofs.ReaderAnswers.{fine_still, given_still, unmoved_answers}
use Rattle.asn_open_values.proofs.TextValues.{open_is}
use Rattle.asn_names.proofs.ShapeReadings.{text_through}
use Rattle.asn_names.proofs.shaped.append_any.Goals as goal

pub returns-clause-reads : goal.returns-clause-reads
returns-clause-reads g c = λ given fine is.
    let old = c.args.pull.now in
    let mid = c.next_tag.new.self in
    let still = (c.in_ok-tag.ensures.given given fine is).1 in
    text_through old mid c.append_open.new.pull _ (read_given OpenType old.state given) _ _ _
    (λ h x.
    unmoved_answers (λ z. read_given OpenType z given) old mid c.append_open.new.pull h still
    (hears_as _ _ _ _ _ _ _ (open_is mid.state given) x))
    (c.append_open.ensures.reads mid.state.limits.depth given (fine_still old mid still fine)
    (given_still old mid given still is) (omega arith))
