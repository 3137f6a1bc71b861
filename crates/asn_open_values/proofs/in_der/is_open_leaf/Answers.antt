use Rattle.std.proofs.Common.{◌∙◌, ap, sym}
use Rattle.asn_elements.specs.Reading.{kind_of}
use Rattle.asn_open_values.specs.OpenTexts.{form_of}
use Rattle.asn_open_values.proofs.OpenInDer.{open_leaf, open_octets_begin}
use Rattle.asn_open_values.proofs.in_der.is_open_leaf.Goals as goal

pub returns-in-Leaf : goal.returns-in-Leaf
returns-in-Leaf c = λ yes limit left octets rest tag is.
    open_leaf limit left c.args.tag (kind_of c.in-Leaf.kind) octets c.args.contents.now rest
    (sym c.open_form.ensures ∙ ap form_of c.in-Leaf.is) tag is c.requires (c.is_der_contents.ensures.contents yes)
    (c.is_der_contents.ensures.der yes)

pub returns-in-Plain : goal.returns-in-Plain
returns-in-Plain c = λ _ limit left octets rest tag is.
    open_octets_begin limit left c.args.tag octets c.args.contents.now rest
    (sym c.open_form.ensures ∙ ap form_of c.in-Plain.is) tag is c.requires
