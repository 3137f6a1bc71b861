use Rattle.std.proofs.Common.{◌≡◌, List, false, map}
use Rattle.std.specs.Cmp.Lexicographic.{slice_cmp}
use Rattle.std.specs.List.{AllAdjacentBelow}
use Rattle.std.specs.Ordering.{is_lt, nat_cmp}
use Rattle.x690.specs.DerTexts.{der}
use Rattle.x690.specs.Values.{Value}
use Rattle.asn_elements.specs.Members.{StandIn}
use Rattle.asn_elements.proofs.texts.ascend.Given as goal

abbrev pub invariant-loop-i : goal.invariant-loop-i
invariant-loop-i l =
    (values : List Value) → StandIn values l.octets l.starts
    → AllAdjacentBelow (λ text next. is_lt (slice_cmp nat_cmp next text) ≡ false) (map der values) l.i
