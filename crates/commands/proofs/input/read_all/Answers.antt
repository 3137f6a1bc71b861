use Rattle.std.proofs.Common.{rules, ◌<◌, length}
use Rattle.commands.proofs.Inputs.{stops_taking}
use Rattle.commands.proofs.input.read_all.Goals as goal

pub returns-in-Err-clause-takes : goal.returns-in-Err-clause-takes
returns-in-Err-clause-takes g c =
    let octets = c.loop-block.octets.items in
    let fewer : length octets < c.args.most = search rules in
    stops_taking c.args.most _ c.in-Err.error (g.R.Source.remaining c.args.src.now)
    (g.R.Source.remaining c.loop-block.src) (g.R.Source.remaining c.take_block.new.src) octets
    c.loop-block.invariant.takes fewer (search rules) c.in-Err.ensures.takes
