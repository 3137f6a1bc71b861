use Rattle.std.proofs.Common.{◌∙◌, ◌++◌, ap, ap₂, codes, decimal, string_bytes}
use Rattle.std.specs.Option.{option_map}
use Rattle.asn_lists.specs.Containers.{set_items}
use Rattle.pkcs8.specs.Seen.{key_seen}
use Rattle.pk_show.specs.Lines.{bits_said, line, optional}
use Rattle.pk_show.specs.Shown.{algorithm_lines, attribute_lines, attributes_lines, key_lines, private_key_lines}
use Rattle.pk_show.proofs.Behind.{further, in_words, past}
use Rattle.pk_show.proofs.keys.OneAsymmetricKeyShown.push_lines.Goals as goal

pub returns : goal.returns
unfolding key_lines
returns c =
    let r = c.push_optional_bits_line.result in
    let old = string_bytes c.args.text.now in
    let with_version = string_bytes c.push_number_line.new.text in
    let with_algorithm = string_bytes c.push_algorithm.new.text in
    let with_key = string_bytes c.push_private_key.new.text in
    let with_attributes = string_bytes c.push_attributes.new.text in
    let new = string_bytes c.push_optional_bits_line.new.text in
    let version = line (codes "version: ") (decimal c.from.result) in
    let algorithm = algorithm_lines (codes "algorithm: ") (codes "parameters: ") c.algorithm.result.now in
    let key = private_key_lines (key_seen c.private_key.result) in
    let attributes =
    attributes_lines attribute_lines
    (option_map (λ set. set_items set) (option_map (λ r. r.now) c.attributes.result)) in
    let public = line (codes "public key: ") (optional bits_said (option_map (λ r. r.now) c.public_key.result)) in
    in_words r new old ((((version ++ algorithm) ++ key) ++ attributes) ++ public) (key_lines c.args.self.now)
    (past r new with_attributes old (((version ++ algorithm) ++ key) ++ attributes) public
    (further with_attributes with_key old ((version ++ algorithm) ++ key) attributes
    (further with_key with_algorithm old (version ++ algorithm) key
    (further with_algorithm with_version old version algorithm c.in_ok-push_number_line.ensures
    c.in_ok-push_algorithm.ensures)
    c.in_ok-push_private_key.ensures)
    c.in_ok-push_attributes.ensures)
    c.push_optional_bits_line.ensures)
    (ap₂ (λ a b. a ++ b) (ap₂ (λ a b. a ++ b) (ap₂ (λ a b. a ++ b) (ap₂ (λ a b. a ++ b)
    (ap (λ n. line (codes "version: ") (decimal n)) (c.from.ensures ∙ c.version.ensures))
    (ap (algorithm_lines (codes "algorithm: ") (codes "parameters: ")) c.algorithm.ensures))
    (ap private_key_lines c.private_key.ensures.value))
    (ap (λ set. attributes_lines attribute_lines (option_map (λ set. set_items set) set)) c.attributes.ensures))
    (ap (λ bits. line (codes "public key: ") (optional bits_said bits)) c.public_key.ensures.value))
