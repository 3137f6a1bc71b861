use Rattle.ber_pull.specs.Calls.{read_primitive}
use Rattle.ber_pull.proofs.Hearing.{hears_as}
use Rattle.asn_open_values.proofs.OpenReadings.{hears_octets, no_kind}
use Rattle.asn_open_values.proofs.open_value.read_contents.Goals as goal

pub returns-in-Sequence-clause-reads : goal.returns-in-Sequence-clause-reads
returns-in-Sequence-clause-reads g c = λ own given fine is.
    let s = c.args.pull.now.state in
    hears_as _ _ _ _ _ _ _ (no_kind c.args.form own s given c.in-Sequence.is)
    (hears_octets own (read_primitive s given) c.primitive_into.new.octets.items c.primitive_into.result _ _ _ _
    (c.primitive_into.ensures.reads given fine is))
