use Rattle.std.proofs.Common.{[], ◌++◌, ap, codes, cond, decimal, string_bytes, sym}
use Rattle.std.proofs.lemmas.Bool.{ne_eqb}
use Rattle.reports.specs.Words.{off_by, size_of, sized}
use Rattle.reports.proofs.Appends.{further, in_words, past}
use Rattle.reports.proofs.words.push_sizes.Goals as goal

pub returns : goal.returns
unfolding size_of
returns c =
    let octets = c.args.octets in
    let announced = c.args.announced in
    let old = string_bytes c.args.text.now in
    let with_size = string_bytes c.push_size.new.text in
    let with_words = string_bytes c.push_str.new.self in
    let with_number = string_bytes c.push_number.new.text in
    let with_colon = string_bytes c.push_str-2.new.self in
    let new = string_bytes c.push_off.new.text in
    let words = codes "; the document says at 0 that it has " in
    let number = decimal announced in
    let first = ((sized octets ++ words) ++ number) ++ codes ": " in
    let said = first ++ off_by octets announced in
    in_words c.push_off.result new old said (size_of octets announced)
    (past c.push_off.result new with_colon old first (off_by octets announced)
    (further with_colon with_number old ((sized octets ++ words) ++ number) (codes ": ")
    (further with_number with_words old (sized octets ++ words) number
    (further with_words with_size old (sized octets) words c.in_ok-push_size.ensures c.in_ok-push_str.ensures.bytes)
    c.in_ok-push_number.ensures)
    c.in_ok-push_str-2.ensures.bytes)
    c.push_off.ensures)
    (sym (ap (λ same. cond same [] said) (ne_eqb octets announced c.if-octets-announced.false)))
