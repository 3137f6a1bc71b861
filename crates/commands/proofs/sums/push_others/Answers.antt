use Rattle.std.proofs.Common.{◌++◌, codes}
use Rattle.std.specs.Prelude.{slice_index}
use Rattle.reports.specs.JsonMembers.{number_member}
use Rattle.reports.proofs.Appends.{further, past}
use Rattle.commands.specs.Sums.{other_members}
use Rattle.commands.proofs.sums.push_others.Goals as goal

pub returns : goal.returns
unfolding other_members
returns c =
    let old = c.args.json.now in
    let counts = c.args.tally.now.verdicts in
    let not_der = number_member (codes "not_der") (slice_index counts 1) in
    let noted = number_member (codes "noted") (slice_index counts 2) in
    let refused = number_member (codes "refused") (slice_index counts 3) in
    let unread = number_member (codes "unread") (slice_index counts 4) in
    let two = further c.number-2.new.self c.number.new.self old not_der noted c.in_ok-number.ensures
    c.in_ok-number-2.ensures in
    let three = further c.number-3.new.self c.number-2.new.self old (not_der ++ noted) refused two
    c.in_ok-number-3.ensures in
    past c.number-4.result c.number-4.new.self c.number-3.new.self old (not_der ++ noted ++ refused) unread three
    c.number-4.ensures
