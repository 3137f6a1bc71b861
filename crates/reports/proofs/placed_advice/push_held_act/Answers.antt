use Rattle.std.proofs.Common.{◌+◌, ◌++◌, codes, decimal, string_bytes}
use Rattle.reports.specs.PlacedAdvice.{held_act, octet_replaced}
use Rattle.reports.proofs.Appends.{further, past, put}
use Rattle.reports.proofs.placed_advice.push_held_act.Goals as goal

pub returns : goal.returns
unfolding held_act
returns c =
    let r = c.push_str.result in
    let old = string_bytes c.args.text.now in
    let with_octet = string_bytes c.push_octet_replaced.new.text in
    let with_place = string_bytes c.push_sum.new.text in
    let new = string_bytes c.push_str.new.self in
    let octet = octet_replaced c.args.begin in
    let place = decimal (c.args.begin + 2) in
    let rest = codes " FILE) > NEW marks it as one string" in
    past r new with_place old (octet ++ place) rest
    (further with_place with_octet old octet place c.in_ok-push_octet_replaced.ensures c.in_ok-push_sum.ensures)
    (put r new with_place rest c.push_str.ensures.bytes)
