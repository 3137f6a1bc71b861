use Rattle.tlv_core.specs.Limits.{Limits}
use Rattle.pkder_c.specs.Calls.{IsSame, PairRefused}
use Rattle.pkder_c.proofs.Calls.{compared}
use Rattle.pkder_c.proofs.pkder_same.Goals as goal

pub returns : goal.returns
returns c =
    let limits : Limits = record { depth = c.args.depth; octets = c.args.octets } in
    let first = c.args.first.now in
    let second = c.args.second.now in
    compared c.same_of.result (IsSame c.args.kind limits first second)
    (PairRefused c.args.kind limits first second)
    _ c.same_of.ensures.same c.same_of.ensures.refused c.pair_outcome.ensures.compared c.pair_outcome.ensures.refused
