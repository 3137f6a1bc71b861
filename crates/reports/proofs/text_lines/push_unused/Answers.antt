use Rattle.std.proofs.Common.{[], ◌++◌, ◌∙◌, ap, codes, cond, decimal, string_bytes, sym}
use Rattle.std.proofs.lemmas.Bool.{ne_eqb}
use Rattle.reports.specs.Lines.{unused_part}
use Rattle.reports.proofs.Appends.{in_words, past}
use Rattle.reports.proofs.text_lines.push_unused.Goals as goal

pub returns : goal.returns
unfolding unused_part
returns c =
    let r = c.push_number.result in
    let new = string_bytes c.push_number.new.text in
    let old = string_bytes c.args.text.now in
    let first = codes ", unused bits: " in
    in_words r new old (first ++ decimal c.from.result) (unused_part c.args.unused)
    (past r new (string_bytes c.push_str.new.self) old first (decimal c.from.result) c.in_ok-push_str.ensures.bytes
    c.push_number.ensures)
    (ap (λ n. first ++ decimal n) c.from.ensures
    ∙ sym (ap (λ b. cond b [] (first ++ decimal c.args.unused)) (ne_eqb c.args.unused 0 c.if-unused-eq0.false)))
