use Rattle.std.proofs.Common.{◌∙◌, ◌++◌, ◌-◌, ap, arith, drop, get_or, length, subst, sym, take}
use Rattle.std.proofs.lemmas.List.{nil_from_length}
use Rattle.std.proofs.lemmas.Slice.{first_rest}
use Rattle.x690.specs.Contents.{Boolean}
use Rattle.x690.specs.Layouts.{same_tag, universal}
use Rattle.x690.specs.TypeTerms.{LeafType}
use Rattle.x690_laws.proofs.TypesOfOneTag.{leaf_fits}
use Rattle.asn_elements.proofs.InDerTexts.{identifier_from}
use Rattle.asn_fields.specs.FieldsInDer.{MayStand}
use Rattle.asn_fields.proofs.FieldsInDer.{none_next, other_next}
use Rattle.asn_fields.proofs.default_false.begins_as_boolean.Goals as goal

pub returns-in_default : goal.returns-in_default
returns-in_default c = λ no trees stand.
    none_next (LeafType (universal 1) Boolean) trees
    (subst (λ z. MayStand trees z) (nil_from_length c.args.octets.now (omega (arith, c.in_default.len_below))) stand)

pub returns : goal.returns
returns c = λ no trees stand.
    let octets = c.args.octets.now in
    let behind = take (length octets - 1) (drop 1 octets) in
    let tag = c.in_ok-tag.ensures in
    let id = identifier_from c.in_ok-tag.tag (get_or octets 0 0) tag.class tag.number tag.low in
    let not = leaf_fits Boolean (universal 1) c.in_ok-tag.tag
    ∙ ap (λ own. same_tag own c.in_ok-tag.tag) (sym c.universal_tag.ensures) ∙ sym c.is_same_tag.ensures ∙ no in
    other_next (LeafType (universal 1) Boolean) c.in_ok-tag.tag _ behind octets
    (first_rest octets 0 c.in-len1-up.len_at_least ∙ ap (λ z. z ++ behind) (sym id)) not trees stand
