use Rattle.std.proofs.Common.{◌∙◌, ◌++◌, ap, ap₂, codes, string_bytes}
use Rattle.std.specs.Option.{option_map}
use Rattle.asn_lists.specs.Containers.{set_items}
use Rattle.pkcs10.specs.Infos.{request_attributes_of, subject_key_of, subject_of}
use Rattle.pk_show.specs.Shown.{attributes_lines, info_lines, public_key_lines, request_attribute_lines, subject_lines}
use Rattle.pk_show.proofs.Behind.{further, in_words, past}
use Rattle.pk_show.proofs.requests.push_info.Goals as goal

pub returns : goal.returns
unfolding info_lines
returns c =
    let r = c.push_attributes.result in
    let old = string_bytes c.args.text.now in
    let with_subject = string_bytes c.push_subject.new.text in
    let with_key = string_bytes c.push_public_key.new.text in
    let new = string_bytes c.push_attributes.new.text in
    let first = subject_lines c.subject.result.now in
    let second = public_key_lines (codes "key algorithm: ") (codes "key parameters: ") c.key_info.result.now in
    let third = attributes_lines request_attribute_lines
    (option_map (λ set. set_items set) (option_map (λ r. r.now) c.attributes.result)) in
    in_words r new old ((first ++ second) ++ third) (info_lines c.args.info.now)
    (past r new with_key old (first ++ second) third
    (further with_key with_subject old first second c.in_ok-push_subject.ensures c.in_ok-push_public_key.ensures)
    c.push_attributes.ensures)
    (ap₂ (λ a b. a ++ b)
    (ap₂ (λ a b. a ++ b) (ap subject_lines (c.subject.ensures ∙ ap subject_of c.deref.ensures))
    (ap (public_key_lines (codes "key algorithm: ") (codes "key parameters: "))
    (c.key_info.ensures ∙ ap subject_key_of c.deref-2.ensures)))
    (ap (λ set. attributes_lines request_attribute_lines (option_map (λ set. set_items set) set))
    (c.attributes.ensures ∙ ap request_attributes_of c.deref-3.ensures)))
