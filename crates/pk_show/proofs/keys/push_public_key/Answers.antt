use Rattle.std.proofs.Common.{◌∙◌, ◌++◌, ap, ap₂, codes, string_bytes}
use Rattle.pkix_values.specs.PublicKeys.{public_key_algorithm_of, subject_public_key_of}
use Rattle.pk_show.specs.Lines.{bits_said, line}
use Rattle.pk_show.specs.Shown.{algorithm_lines, public_key_lines}
use Rattle.pk_show.proofs.Behind.{in_words, past}
use Rattle.pk_show.proofs.keys.push_public_key.Goals as goal

pub returns : goal.returns
unfolding public_key_lines
returns c =
    let old = string_bytes c.args.text.now in
    let new = string_bytes c.push_bits_line.new.text in
    let first = algorithm_lines c.args.label.now c.args.parameters_label.now c.algorithm.result.now in
    let second = line (codes "public key: ") (bits_said c.key.result.now) in
    in_words c.push_bits_line.result new old (first ++ second)
    (public_key_lines c.args.label.now c.args.parameters_label.now c.args.key.now)
    (past c.push_bits_line.result new
    (string_bytes c.push_algorithm.new.text) old first second c.in_ok-push_algorithm.ensures c.push_bits_line.ensures)
    (ap₂ (λ a b. a ++ b) (ap (algorithm_lines c.args.label.now c.args.parameters_label.now)
    (c.algorithm.ensures ∙ ap public_key_algorithm_of c.deref.ensures))
    (ap (λ bits. line (codes "public key: ") (bits_said bits)) (c.key.ensures.value ∙ ap subject_public_key_of c.deref-2.ensures)))
