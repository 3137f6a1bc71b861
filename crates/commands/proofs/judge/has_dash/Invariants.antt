use Rattle.std.proofs.Common.{◌≡◌, drop, map}
use Rattle.std.specs.List.{list_any}
use Rattle.commands.specs.Standards.{is_dash}
use Rattle.commands.proofs.judge.has_dash.Given as goal

abbrev pub invariant-loop-name : goal.invariant-loop-name
invariant-loop-name l =
    list_any is_dash (map (λ name. name.now) (drop l.name-index l.names))
    ≡ list_any is_dash (map (λ name. name.now) l.names)
