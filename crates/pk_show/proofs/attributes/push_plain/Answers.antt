use Rattle.std.proofs.Common.{◌∙◌, ◌++◌, [], ◌∷◌, ap, flat_map, length, not, string_bytes, sym}
use Rattle.x690.specs.Lists.{one_of}
use Rattle.pkix_definitions.specs.Identifiers.{extension_request}
use Rattle.asn_lists.specs.Containers.{set_items}
use Rattle.pkix_values.specs.RequestAttributes.{plain_values_of, request_attribute_type_of, request_attribute_values_of}
use Rattle.pk_show.specs.Shown.{attribute_line, request_attribute_lines, value_line}
use Rattle.pk_show.proofs.Behind.{in_words}
use Rattle.pk_show.proofs.RequestValues.{neither, plain_shown}
use Rattle.pk_show.proofs.attributes.push_plain.Goals as goal

pub unreachable-requires : goal.unreachable-requires
unreachable-requires c =
    neither (one_of (request_attribute_type_of c.args.attribute.now.fields) (extension_request ∷ []))
    (sym c.requires)
    (c.in_default.ensures.by_type
    ∙ ap (λ it. not (one_of (request_attribute_type_of it) (extension_request ∷ []))) c.deref.ensures)

pub returns : goal.returns
unfolding request_attribute_lines
returns c =
    let it = c.args.attribute.now in
    let values = c.in-Some.values.now in
    let lines = flat_map value_line (set_items values) in
    in_words c.push_values.result (string_bytes c.push_values.new.text) (string_bytes c.args.text.now)
    (attribute_line c.id.result.now (length (set_items values)) ++ lines)
    (request_attribute_lines it) c.push_values.ensures
    (ap (λ id. attribute_line id (length (set_items values)) ++ lines)
    (c.id.ensures ∙ ap request_attribute_type_of c.deref-2.ensures)
    ∙ plain_shown (request_attribute_type_of it.fields) (request_attribute_values_of it.fields) values
    (c.in-Some.ensures.value ∙ ap plain_values_of c.deref.ensures))
