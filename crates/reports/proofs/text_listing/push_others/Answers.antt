use Rattle.std.proofs.Common.{[], ◌++◌, ap, codes, cond, decimal, string_bytes, sym}
use Rattle.std.proofs.lemmas.Bool.{ne_eqb}
use Rattle.reports.specs.Listings.{others_said}
use Rattle.reports.specs.Texts.{line_feed}
use Rattle.reports.proofs.Appends.{further, in_words, past, put}
use Rattle.reports.proofs.text_listing.push_others.Goals as goal

pub returns : goal.returns
unfolding others_said
returns c =
    let r = c.push_str-2.result in
    let old = string_bytes c.args.text.now in
    let with_words = string_bytes c.push_str.new.self in
    let with_number = string_bytes c.push_number.new.text in
    let new = string_bytes c.push_str-2.new.self in
    let words = codes "...  (places that aren't in DER left out: " in
    let number = decimal c.args.others in
    let last = codes "; --all has them)" ++ line_feed in
    in_words r new old ((words ++ number) ++ last) (others_said c.args.others)
    (past r new with_number old (words ++ number) last
    (further with_number with_words old words number c.in_ok-push_str.ensures.bytes c.in_ok-push_number.ensures)
    (put r new with_number last c.push_str-2.ensures.bytes))
    (sym (ap (λ none. cond none [] ((words ++ number) ++ last)) (ne_eqb c.args.others 0 c.if-others-eq0.false)))
