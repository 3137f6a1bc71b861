use Rattle.std.proofs.Common.{◌∙◌, ◌++◌, ap, ap₂, codes, string_bytes}
use Rattle.pkcs10.specs.Requests.{request_info_of, signature_algorithm_of, signature_of}
use Rattle.pk_show.specs.Lines.{bits_said, line}
use Rattle.pk_show.specs.Shown.{algorithm_lines, info_lines, request_lines}
use Rattle.pk_show.proofs.Behind.{further, in_words, past}
use Rattle.pk_show.proofs.requests.push_request.Goals as goal

pub returns : goal.returns
unfolding request_lines
returns c =
    let r = c.push_bits_line.result in
    let old = string_bytes c.args.text.now in
    let with_info = string_bytes c.push_info.new.text in
    let with_algorithm = string_bytes c.push_algorithm.new.text in
    let new = string_bytes c.push_bits_line.new.text in
    let first = info_lines c.info.result.now in
    let second =
    algorithm_lines (codes "signature algorithm: ") (codes "signature parameters: ") c.signature_algorithm.result.now in
    let third = line (codes "signature: ") (bits_said c.signature.result.now) in
    in_words r new old ((first ++ second) ++ third) (request_lines c.args.request.now)
    (past r new with_algorithm old (first ++ second) third
    (further with_algorithm with_info old first second c.in_ok-push_info.ensures c.in_ok-push_algorithm.ensures)
    c.push_bits_line.ensures)
    (ap₂ (λ a b. a ++ b)
    (ap₂ (λ a b. a ++ b) (ap info_lines (c.info.ensures ∙ ap request_info_of c.deref.ensures))
    (ap
    (algorithm_lines (codes "signature algorithm: ") (codes "signature parameters: "))
    (c.signature_algorithm.ensures ∙ ap signature_algorithm_of c.deref-2.ensures)))
    (ap (λ bits. line (codes "signature: ") (bits_said bits)) (c.signature.ensures ∙ ap signature_of c.deref-3.ensures)))
