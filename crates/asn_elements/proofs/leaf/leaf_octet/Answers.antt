use Rattle.std.proofs.Common.{rules, sym, ap, ◌∙◌, refl, length, slice_get, false}
use Rattle.std.proofs.lemmas.Option.{slice_get_read, slice_get_past}
use Rattle.tlv_core.specs.Header.{der_header}
use Rattle.x690_laws.proofs.LengthsOfTexts.{der_leaf}
use Rattle.asn_elements.proofs.HeaderOctets.{get_framed, get_header}
use Rattle.asn_elements.proofs.leaf.leaf_octet.Goals as goal

pub returns-in-InHeader : goal.returns-in-InHeader
returns-in-InHeader c =
    let xs = c.args.contents.now in
    sym (ap (λ z. slice_get z c.args.i) (der_leaf c.args.tag xs)
    ∙ get_header (der_header c.args.tag false (length xs)) xs c.args.i c.in-InHeader.octet c.in-InHeader.ensures)

pub returns-then-at-contents : goal.returns-then-at-contents
returns-then-at-contents c =
    let xs = c.args.contents.now in
    sym (ap (λ z. slice_get z c.args.i) (der_leaf c.args.tag xs)
    ∙ (get_framed (der_header c.args.tag false (length xs)) xs c.args.i c.in-InContents.at c.in-InContents.ensures
    ∙ slice_get_read xs (length xs) c.in-InContents.at _ refl c.if-at-contents.true (search rules)))

pub returns-else-at-contents : goal.returns-else-at-contents
returns-else-at-contents c =
    let xs = c.args.contents.now in
    sym (ap (λ z. slice_get z c.args.i) (der_leaf c.args.tag xs)
    ∙ (get_framed (der_header c.args.tag false (length xs)) xs c.args.i c.in-InContents.at c.in-InContents.ensures
    ∙ slice_get_past xs c.in-InContents.at c.if-at-contents.false))
