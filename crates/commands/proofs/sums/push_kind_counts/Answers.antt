use Rattle.std.proofs.Common.{OnOk, ◌++◌, ◌+◌, ◌≡◌, ◌∙◌, ap, ap₂, codes, subst}
use Rattle.std.specs.Prelude.{slice_index}
use Rattle.pk_documents.specs.KindRows.{number_of}
use Rattle.reports.specs.JsonMembers.{number_member}
use Rattle.reports.proofs.Appends.{further, past}
use Rattle.commands.specs.Sums.{kind_counts, sound_key}
use Rattle.commands.proofs.sums.push_kind_counts.Goals as goal

pub returns : goal.returns
unfolding kind_counts
returns c =
    let old = c.args.json.now in
    let counts = c.args.tally.now.kinds in
    let kind = number_of c.args.kind in
    let sound = number_member (sound_key c.args.task.now.action) (slice_index counts (0 + kind)) in
    let not_der = number_member (codes "not_der") (slice_index counts (7 + kind)) in
    let noted = number_member (codes "noted") (slice_index counts (14 + kind)) in
    let one : c.number.new.self ≡ old ++ sound = c.in_ok-number.ensures
    ∙ ap₂ (λ name count. old ++ number_member name count) c.sound_key.ensures c.kind_count.ensures in
    let other : c.number-2.new.self ≡ c.number.new.self ++ not_der = c.in_ok-number-2.ensures
    ∙ ap (λ count. c.number.new.self ++ number_member (codes "not_der") count) c.kind_count-2.ensures in
    let two = further c.number-2.new.self c.number.new.self old sound not_der one other in
    past c.number-3.result c.number-3.new.self c.number-2.new.self old (sound ++ not_der) noted two
    (subst
    (λ count.
    OnOk c.number-3.result (c.number-3.new.self ≡ c.number-2.new.self ++ number_member (codes "noted") count))
    c.kind_count-3.ensures c.number-3.ensures)
