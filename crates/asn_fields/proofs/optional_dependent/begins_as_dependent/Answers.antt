use Rattle.std.proofs.Common.{◌∙◌, ◌++◌, ◌-◌, ap, arith, drop, get_or, length, subst, sym, take}
use Rattle.std.proofs.lemmas.List.{nil_from_length}
use Rattle.std.proofs.lemmas.Slice.{first_rest}
use Rattle.asn_elements.proofs.InDerTexts.{identifier_from}
use Rattle.asn_fields.specs.FieldsInDer.{MayStand}
use Rattle.asn_fields.proofs.FieldsInDer.{none_next, other_next}
use Rattle.asn_fields.proofs.optional_dependent.begins_as_dependent.Goals as goal

pub returns-in_default : goal.returns-in_default
returns-in_default g c = λ no trees stand.
    none_next g.F.DependentElement.type_term trees
    (subst (λ z. MayStand trees z) (nil_from_length c.args.octets.now (omega (arith, c.in_default.len_below))) stand)

pub returns : goal.returns
returns g c = λ no trees stand.
    let octets = c.args.octets.now in
    let behind = take (length octets - 1) (drop 1 octets) in
    let tag = c.in_ok-tag.ensures in
    let id = identifier_from c.in_ok-tag.tag (get_or octets 0 0) tag.class tag.number tag.low in
    other_next g.F.DependentElement.type_term c.in_ok-tag.tag _ behind octets
    (first_rest octets 0 c.in-len1-up.len_at_least ∙ ap (λ z. z ++ behind) (sym id)) (sym c.fits.ensures ∙ no) trees
    stand
