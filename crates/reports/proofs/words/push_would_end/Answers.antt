use Rattle.std.proofs.Common.{◌+◌, ◌++◌, codes, decimal, string_bytes}
use Rattle.reports.specs.Words.{would_end}
use Rattle.reports.proofs.Appends.{further, past, put}
use Rattle.reports.proofs.words.push_would_end.Goals as goal

pub returns : goal.returns
unfolding would_end
returns c =
    let r = c.push_str-2.result in
    let old = string_bytes c.args.text.now in
    let with_words = string_bytes c.push_str.new.self in
    let with_end = string_bytes c.push_sum.new.text in
    let new = string_bytes c.push_str-2.new.self in
    let words = codes ", which would end at " in
    let end = decimal (c.args.end + c.args.over) in
    past r new with_end old (words ++ end) (codes "; ")
    (further with_end with_words old words end c.in_ok-push_str.ensures.bytes c.in_ok-push_sum.ensures)
    (put r new with_end (codes "; ") c.push_str-2.ensures.bytes)
