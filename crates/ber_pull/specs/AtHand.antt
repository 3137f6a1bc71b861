-- Elements whose length and contents a source has at hand.
use Rattle.std.specs.Prelude.{List, None, Some, drop, length, take, ℕ, ◌+◌, ◌<◌, ◌^◌, ◌≡◌, ◌≤◌}
use Rattle.x690.specs.ReadHeaders.{primitive_contents}
use Rattle.x690.specs.Reading.{Took, run}
use Rattle.ber_pull.specs.Calls.{read_primitive}
use Rattle.ber_pull.specs.Standing.{Standing, enclosing}
use Rattle.ber_pull.specs.declared.state.Given.{Given}

-- Reading the primitive element that is given would end well within these octets, give these contents, and take three
-- length octets at most.
pub record AreAtHand (s : Standing) (octets contents : List ℕ) : Type 0 where
  pub fine : s.error ≡ None
  pub element : Given
  pub given : s.given ≡ Some element
  pub place : ℕ
  pub rest : List ℕ
  pub reads : run (read_primitive s element) s.taken octets ≡ Took contents place rest
  pub short : place ≤ s.taken + 3 + length contents

-- The same where any identifier was taken: the length octets are the first `from` of these, and the contents are the
-- next `size`.
pub record StandAtHand (s : Standing) (octets : List ℕ) (from size : ℕ) : Type 0 where
  pub reads : (place : ℕ) → run (primitive_contents s.limits (enclosing s) place) s.taken octets
      ≡ Took (take size (drop from octets)) (s.taken + (from + size)) (drop (from + size) octets)
  pub short : from ≤ 3
  pub small : size < 2 ^ 16
  pub within : from + size ≤ length octets
  pub taken : s.taken + (from + size) ≤ s.limits.octets
