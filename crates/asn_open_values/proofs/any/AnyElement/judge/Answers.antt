use Rattle.std.proofs.lemmas.Option.{IfSome_then}
use Rattle.asn_open_values.proofs.any.AnyElement.judge.Goals as goal

pub returns : goal.returns
returns c = IfSome_then c.judge_open.result c.judge_open.ensures (λ rest begins. begins c.args._limits.depth)
