use Rattle.std.proofs.Common.{◌-◌, drop, length, take}
use Rattle.std.proofs.lemmas.Slice.{first_rest}
use Rattle.asn_elements.proofs.InDerTexts.{element_stands}
use Rattle.asn_elements.proofs.in_der.element_in_der.Goals as goal

pub returns-clause-is : goal.returns-clause-is
returns-clause-is c =
    let octets = c.args.octets.now in
    element_stands octets (take (length octets - 1) (drop 1 octets)) c.in_ok-size.contents.now _
    c.in_ok-identifier.identifier c.in_ok-size.size c.args.tag c.args.constructed
    (first_rest octets 0 c.in-len1-up.len_at_least) c.if-first-identifier.false c.in_ok-identifier.ensures.is
    c.in_ok-size.ensures.is c.if-contents-size.false
