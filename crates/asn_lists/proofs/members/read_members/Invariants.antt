use Rattle.std.proofs.Common.{◌≡◌, ◌≤◌, ◌-◌, List, map, [], None, Some}
use Rattle.x690.specs.Lists.{Each}
use Rattle.x690.specs.Values.{Same, Value}
use Rattle.x690.specs.ReadTypes.{read_type}
use Rattle.ber_pull.specs.View.{SameSource, standing}
use Rattle.ber_pull.specs.declared.state.Given.{Given}
use Rattle.asn_elements.specs.Reading.{read_given_members}
use Rattle.asn_elements.proofs.MemberReadings.{Inside}
use Rattle.asn_lists.proofs.members.read_members.Given as goal

abbrev pub invariant-loop-items : goal.invariant-loop-items
invariant-loop-items g l =
    (l.at ≡ (standing l.pull).taken)
    × SameSource l.fn.pull l.pull
    × ((standing l.pull).error ≡ None)
    × ((standing l.pull).given ≡ None)
    × ((standing l.pull).limits ≡ (standing l.fn.pull).limits)
    × ((standing l.fn.pull).taken ≤ (standing l.pull).taken)
    × ((standing l.fn.pull).error ≡ None)
    × ((given : Given) → (standing l.fn.pull).given ≡ Some given
    → (vs : List Value) × Each Same vs (map g.T.DerText.value l.items.items)
    × Inside (read_type (standing l.fn.pull).limits g.T.Element.type_term [])
    (read_given_members g.T.Element.type_term (standing l.fn.pull) given) l.fn.pull l.pull vs)

abbrev pub decreases-loop-items : goal.decreases-loop-items
decreases-loop-items g l = (standing l.pull).limits.octets - (standing l.pull).taken
