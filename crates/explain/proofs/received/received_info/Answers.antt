use Rattle.std.proofs.Common.{Some}
use Rattle.explain.proofs.Receiving.{memory_alone, taken_is}
use Rattle.explain.proofs.received.received_info.Goals as goal

pub returns-in-Ok-clause-received : goal.returns-in-Ok-clause-received
returns-in-Ok-clause-received c =
    (taken_is c.args.limits c.requires.0 _ c.args.request.now c.behind_header-members.result.now
    (Some c.read_value.new.src.now) c.in-Ok.taken c.requires.1 c.behind_header-members.ensures c.in-Ok.ensures.reads).1

pub returns-in-Err-clause-memory : goal.returns-in-Err-clause-memory
returns-in-Err-clause-memory c =
    memory_alone c.args.limits c.requires.0 c.args.request.now c.behind_header-members.result.now
    (Some c.read_value.new.src.now) c.in-Err.error c.requires.1 c.behind_header-members.ensures c.in-Err.ensures.reads
    c.in-Err.ensures.read
