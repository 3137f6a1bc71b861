use Rattle.std.proofs.Common.{◌≡◌, ◌+◌, ◌-◌, ◌≤◌, List, [], None, Some, length}
use Rattle.x690.specs.ReadTypes.{read_type}
use Rattle.x690.specs.Values.{Value}
use Rattle.ber_pull.specs.View.{SameSource, standing}
use Rattle.ber_pull.specs.declared.state.Given.{Given}
use Rattle.asn_elements.specs.Reading.{read_given_members}
use Rattle.asn_elements.proofs.MemberReadings.{Inside}
use Rattle.asn_open_values.specs.OpenTexts.{StandBehind}
use Rattle.pkix_shapes.specs.Terms.{term_of}
use Rattle.asn_names.proofs.ShapeSizes.{size, size_of_fields}
use Rattle.asn_names.proofs.shaped.+shaped.Given as goal

abbrev pub decreases-append_shaped : goal.decreases-append_shaped
decreases-append_shaped g l = size l.shape.now

abbrev pub decreases-append_choice : goal.decreases-append_choice
decreases-append_choice g l = size l.first.now + size l.second.now + 1

abbrev pub decreases-append_sequence : goal.decreases-append_sequence
decreases-append_sequence g l = size_of_fields l.fields.now + 1

abbrev pub decreases-append_fields : goal.decreases-append_fields
decreases-append_fields g l = size_of_fields l.fields.now

abbrev pub decreases-append_due : goal.decreases-append_due
decreases-append_due g l = size l.shape.now + 1

abbrev pub decreases-append_set : goal.decreases-append_set
decreases-append_set g l = size l.members.shape.now + 2

abbrev pub decreases-append_list : goal.decreases-append_list
decreases-append_list g l = size l.members.shape.now + 2

abbrev pub decreases-append_members : goal.decreases-append_members
decreases-append_members g l = size l.members.shape.now + 1

abbrev pub invariant-append_members-loop-next : goal.invariant-append_members-loop-next
invariant-append_members-loop-next g l =
    (l.at ≡ (standing l.pull).taken)
    × SameSource l.fn.pull l.pull
    × ((standing l.pull).error ≡ None)
    × ((standing l.pull).given ≡ None)
    × ((standing l.pull).limits ≡ (standing l.fn.pull).limits)
    × ((standing l.fn.pull).taken ≤ (standing l.pull).taken)
    × ((standing l.fn.pull).error ≡ None)
    × ((given : Given) → (standing l.fn.pull).given ≡ Some given
    → (vs : List Value) × StandBehind l.members.in_set vs l.fn.text.items l.text.items l.starts.items
    × (l.missing ≡ l.members.least - length vs)
    × Inside (read_type (standing l.fn.pull).limits (term_of l.members.shape.now) [])
    (read_given_members (term_of l.members.shape.now) (standing l.fn.pull) given) l.fn.pull l.pull vs)

abbrev pub decreases-append_members-loop-next : goal.decreases-append_members-loop-next
decreases-append_members-loop-next g l = (standing l.pull).limits.octets - (standing l.pull).taken
