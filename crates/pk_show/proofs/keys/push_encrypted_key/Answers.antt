use Rattle.std.proofs.Common.{◌∙◌, ◌++◌, ap, ap₂, codes, length, string_bytes}
use Rattle.asn_elements.specs.Leaves.{octets_of}
use Rattle.pkcs8.specs.EncryptedKeys.{encrypted_data_of, encryption_algorithm_of}
use Rattle.pk_show.specs.Lines.{octets_line}
use Rattle.pk_show.specs.Shown.{algorithm_lines, encrypted_lines}
use Rattle.pk_show.proofs.Behind.{in_words, past}
use Rattle.pk_show.proofs.keys.push_encrypted_key.Goals as goal

pub returns : goal.returns
unfolding encrypted_lines
returns c =
    let old = string_bytes c.args.text.now in
    let new = string_bytes c.push_octets_line.new.text in
    let first = algorithm_lines (codes "algorithm: ") (codes "parameters: ") c.algorithm.result.now in
    let second = octets_line (codes "encrypted key: ") (length c.octets-2.result.now) in
    in_words c.push_octets_line.result new old (first ++ second) (encrypted_lines c.args.key.now)
    (past c.push_octets_line.result new
    (string_bytes c.push_algorithm.new.text) old first second c.in_ok-push_algorithm.ensures c.push_octets_line.ensures)
    (ap₂ (λ it octets.
    algorithm_lines (codes "algorithm: ") (codes "parameters: ") it
    ++ octets_line (codes "encrypted key: ") (length octets)) (c.algorithm.ensures ∙ ap encryption_algorithm_of c.deref.ensures)
    (c.octets-2.ensures ∙ ap octets_of (c.octets.ensures ∙ ap encrypted_data_of c.deref-2.ensures)))
