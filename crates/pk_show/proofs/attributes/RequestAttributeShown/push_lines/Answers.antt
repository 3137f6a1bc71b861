use Rattle.std.proofs.Common.{◌∙◌, ◌++◌, ◌∷◌, [], ap, flat_map, length, map, string_bytes, sym}
use Rattle.pkix_definitions.specs.Identifiers.{extension_request}
use Rattle.x690.specs.Lists.{one_of}
use Rattle.asn_lists.specs.Containers.{list_items, set_items}
use Rattle.pkix_values.specs.RequestAttributes.{extensions_of, request_attribute_type_of, request_attribute_values_of}
use Rattle.pk_show.specs.Shown.{attribute_line, extensions_lines, request_attribute_lines}
use Rattle.pk_show.proofs.Behind.{in_words}
use Rattle.pk_show.proofs.RequestValues.{lists_shown}
use Rattle.pk_show.proofs.attributes.RequestAttributeShown.push_lines.Goals as goal

pub returns-in-Some : goal.returns-in-Some
unfolding request_attribute_lines
returns-in-Some c =
    let it = c.args.self.now in
    let lists = c.in-Some.lists.now in
    let lines = flat_map extensions_lines (map list_items (set_items lists)) in
    in_words c.push_lists.result (string_bytes c.push_lists.new.text) (string_bytes c.args.text.now)
    (attribute_line c.id.result.now (length (set_items lists)) ++ lines)
    (request_attribute_lines it) c.push_lists.ensures
    (ap (λ id. attribute_line id (length (set_items lists)) ++ lines)
    (c.id.ensures ∙ ap request_attribute_type_of c.deref-in-Some.ensures)
    ∙ lists_shown (request_attribute_type_of it.fields) (request_attribute_values_of it.fields) lists
    (c.in-Some.ensures.value ∙ ap extensions_of c.deref.ensures))

pub push_plain-requires : goal.push_plain-requires
push_plain-requires c =
    sym
    (c.in-None.ensures.by_type
    ∙ ap (λ it. one_of (request_attribute_type_of it) (extension_request ∷ [])) c.deref.ensures)
