use Rattle.std.proofs.Common.{◌≡◌, drop, map}
use Rattle.pkder.specs.CommandLines.{has_second_dash}
use Rattle.pkder.proofs.line.has_second_dash.Given as goal

abbrev pub invariant-loop-name : goal.invariant-loop-name
invariant-loop-name l =
    has_second_dash l.has_dash (map (λ name. name.now) (drop l.name-index l.names))
    ≡ has_second_dash l.fn.already (map (λ name. name.now) l.names)
