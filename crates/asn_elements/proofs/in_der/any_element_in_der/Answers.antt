use Rattle.std.proofs.Common.{◌-◌, drop, get_or, length, refl, take}
use Rattle.std.proofs.lemmas.Slice.{first_rest}
use Rattle.asn_elements.proofs.InDerTexts.{element_stands, identifier_from}
use Rattle.asn_elements.proofs.in_der.any_element_in_der.Goals as goal

pub returns-clause-is : goal.returns-clause-is
returns-clause-is c =
    let octets = c.args.octets.now in
    let first = get_or octets 0 0 in
    let tag = c.in_ok-tag.ensures in
    element_stands octets (take (length octets - 1) (drop 1 octets)) c.in_ok-size.contents.now first first
    c.in_ok-size.size c.in_ok-tag.tag _ (first_rest octets 0 c.in-len1-up.len_at_least) refl
    (identifier_from c.in_ok-tag.tag first tag.class tag.number tag.low) c.in_ok-size.ensures.is
    c.if-contents-size.false
