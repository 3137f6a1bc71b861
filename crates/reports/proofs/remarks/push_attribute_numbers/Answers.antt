use Rattle.std.proofs.Common.{codes, decimal, string_bytes, ◌++◌}
use Rattle.reports.specs.Remarks.{attribute_numbers}
use Rattle.reports.proofs.Appends.{past, put}
use Rattle.reports.proofs.remarks.push_attribute_numbers.Goals as goal

pub returns-in_ok-push_number-in-Long-2 : goal.returns-in_ok-push_number-in-Long-2
unfolding attribute_numbers
returns-in_ok-push_number-in-Long-2 c =
    let it = c.push_str-in-Long in
    let new = string_bytes it.new.self in
    let with_characters = string_bytes c.push_number.new.text in
    let with_words = string_bytes c.push_str.new.self in
    let with_most = string_bytes c.push_number-in-Long.new.text in
    let characters = decimal c.in-Long.characters in
    let words = codes " characters, where its attribute has " in
    let most = decimal c.in-Long.most in
    let last = codes " at most (RFC 5280 appendix A.1)" in
    rw c.in-Long.is
    (past it.result new with_characters (string_bytes c.args.text.now) characters (words ++ (most ++ last))
    c.in_ok-push_number-in-Long.ensures
    (past it.result new with_words with_characters words (most ++ last) c.in_ok-push_str-in-Long.ensures.bytes
    (past it.result new with_most with_words most last c.in_ok-push_number-in-Long-2.ensures
    (put it.result new with_most last it.ensures.bytes))))
