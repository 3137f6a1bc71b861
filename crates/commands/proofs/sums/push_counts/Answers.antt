use Rattle.std.proofs.Common.{◌++◌, ◌≡◌, ◌∙◌, ap, codes}
use Rattle.std.specs.Prelude.{slice_index}
use Rattle.reports.specs.JsonMembers.{number_member}
use Rattle.reports.proofs.Appends.{further, past}
use Rattle.commands.specs.Sums.{count_members, other_members, sound_key}
use Rattle.commands.proofs.sums.push_counts.Goals as goal

pub returns : goal.returns
unfolding count_members
returns c =
    let old = c.args.json.now in
    let tally = c.args.tally.now in
    let count = slice_index tally.verdicts 0 in
    let all = number_member (codes "documents") tally.files in
    let sound = number_member (sound_key c.args.task.now.action) count in
    let one : c.number-2.new.self ≡ c.number.new.self ++ sound = c.in_ok-number-2.ensures
    ∙ ap (λ name. c.number.new.self ++ number_member name count) c.sound_key.ensures in
    let two = further c.number-2.new.self c.number.new.self old all sound c.in_ok-number.ensures one in
    past c.push_others.result c.push_others.new.json c.number-2.new.self old (all ++ sound) (other_members tally) two
    c.push_others.ensures
