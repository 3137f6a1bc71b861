use Rattle.std.proofs.Common.{◌+◌, ◌*◌, ℕ, length}
use Rattle.asn_open_values.proofs.OpenInDer.{OpenGoesOn}
use Rattle.asn_open_values.proofs.in_der.+judged.Given as goal

abbrev pub decreases-are_open_members : goal.decreases-are_open_members
decreases-are_open_members l = 4 * l.left + 3

abbrev pub decreases-judge_open : goal.decreases-judge_open
decreases-judge_open l = 4 * l.left + 2

abbrev pub decreases-is_open_container : goal.decreases-is_open_container
decreases-is_open_container l = 4 * l.left + 1

abbrev pub decreases-are_contents : goal.decreases-are_contents
decreases-are_contents l = 4 * l.left

abbrev pub invariant-are_open_members-loop-rest : goal.invariant-are_open_members-loop-rest
invariant-are_open_members-loop-rest l = (limit : ℕ) → OpenGoesOn l.is_set limit l.left l.octets l.rest l.before

abbrev pub decreases-are_open_members-loop-rest : goal.decreases-are_open_members-loop-rest
decreases-are_open_members-loop-rest l = length l.rest
