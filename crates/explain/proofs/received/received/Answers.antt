use Rattle.explain.proofs.Receiving.{all_spelled, only_memory, refused_as}
use Rattle.explain.proofs.received.received.Goals as goal

pub received_info-requires : goal.received_info-requires
received_info-requires c =
    all_spelled c.args.limits c.args.octets.now _ _ _ c.in-Ok.ensures.checked c.in-Ok.ensures.ends

pub returns-in-Ok-clause-refused : goal.returns-in-Ok-clause-refused
returns-in-Ok-clause-refused c =
    only_memory c.args.limits c.args.octets.now c.received_info.result c.received_info.ensures.memory

pub returns-in-Err-clause-refused : goal.returns-in-Err-clause-refused
returns-in-Err-clause-refused c =
    refused_as c.args.limits c.args.octets.now _ c.in-Err.error c.in-Err.ensures.checked c.in-Err.ensures.read
