use Rattle.x690_laws.proofs.LengthsShortest.{shortest_least}
use Rattle.x690_laws.proofs.TextsAsTrees.{shortest_len}
use Rattle.x690_laws.proofs.layouts.a_length_is_spelled_shortest.Goals as goal

pub returns : goal.returns
returns c = record { spells = shortest_len; least = shortest_least }
