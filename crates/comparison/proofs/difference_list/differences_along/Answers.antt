use Rattle.std.proofs.Common.{length, rules, ◌+◌}
use Rattle.comparison.specs.DifferenceLists.{differences_along}
use Rattle.comparison.proofs.DifferenceRounds.{round_kept}
use Rattle.comparison.proofs.difference_list.differences_along.Goals as goal

pub loop-rounds-preserved : goal.loop-rounds-preserved
loop-rounds-preserved c =
    let lines = c.args.first.now in
    let others = c.args.second.now in
    let first = c.args.encodings.first.now in
    let second = c.args.encodings.second.now in
    round_kept c.loop-rounds.rounds first second c.loop-rounds.left.now c.loop-rounds.right.now
    c.after_pass-left.result.now c.after_pass-right.result.now (length lines)
    (length others) c.saturating_sub-number.result
    c.saturating_sub-other.result c.meet-meeting.result c.first_pass.result c.second_pass.result
    c.loop-rounds.all.items c.push_difference.new.all.items
    (differences_along (length lines + length others) first second lines others (length lines) (length others))
    c.loop-rounds-test.true c.meet-meeting.ensures (search rules) (search rules) c.first_pass.ensures
    c.second_pass.ensures c.after_pass-left.ensures c.after_pass-right.ensures c.in_ok-push_difference.ensures
    c.loop-rounds.invariant
