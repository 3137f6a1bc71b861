use Rattle.std.proofs.Common.{◌≡◌, ◌+◌, ◌*◌, ◌-◌, ◌≤◌, List, ℕ, None, Some, length, suc}
use Rattle.x690.specs.ReadContents.{read_open}
use Rattle.x690.specs.Values.{Value}
use Rattle.ber_pull.specs.Standing.{Standing}
use Rattle.ber_pull.specs.View.{SameSource, standing}
use Rattle.ber_pull.specs.declared.state.Given.{Given}
use Rattle.asn_open_values.specs.OpenTexts.{StandBehind, read_given_open_members}
use Rattle.asn_elements.proofs.MemberReadings.{Inside}
use Rattle.asn_open_values.proofs.open_value.+open.Given as goal

-- how many more containers may be opened
abbrev room : Standing → ℕ
room s = s.limits.depth - length s.containers

abbrev pub decreases-append_open : goal.decreases-append_open
decreases-append_open g l = 3 * room (standing l.pull.now) + 2

abbrev pub decreases-append_set : goal.decreases-append_set
decreases-append_set g l = 3 * room (standing l.pull.now) + 1

abbrev pub decreases-append_sequence : goal.decreases-append_sequence
decreases-append_sequence g l = 3 * room (standing l.pull.now) + 1

abbrev pub decreases-append_members : goal.decreases-append_members
decreases-append_members g l = 3 * room (standing l.pull.now)

abbrev pub invariant-append_members-loop-tag : goal.invariant-append_members-loop-tag
invariant-append_members-loop-tag g l =
    SameSource l.fn.pull l.pull
    × ((standing l.pull).error ≡ None)
    × ((standing l.pull).given ≡ None)
    × ((standing l.pull).limits ≡ (standing l.fn.pull).limits)
    × ((standing l.fn.pull).taken ≤ (standing l.pull).taken)
    × ((standing l.fn.pull).error ≡ None)
    × (length (standing l.pull).containers ≡ length (standing l.fn.pull).containers + 1)
    × ((deep : ℕ) (given : Given) → (standing l.fn.pull).given ≡ Some given
    → (standing l.fn.pull).limits.depth ≤ suc deep + length (standing l.fn.pull).containers
    → (vs : List Value) × StandBehind l.is_set vs l.fn.text.items l.text.items l.starts.items
    × Inside (λ inside. read_open deep (standing l.fn.pull).limits inside)
    (read_given_open_members deep (standing l.fn.pull) given) l.fn.pull l.pull vs)

abbrev pub decreases-append_members-loop-tag : goal.decreases-append_members-loop-tag
decreases-append_members-loop-tag g l = (standing l.pull).limits.octets - (standing l.pull).taken
