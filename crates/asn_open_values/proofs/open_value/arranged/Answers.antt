use Rattle.std.proofs.Common.{◌∙◌, ap, sym}
use Rattle.asn_elements.specs.Framing.{framed}
use Rattle.asn_elements.proofs.ContainerTexts.{arranged_text}
use Rattle.asn_open_values.proofs.open_value.arranged.Goals as goal

pub returns-in-Ok-clause-is : goal.returns-in-Ok-clause-is
returns-in-Ok-clause-is g c = λ values tag are.
    arranged_text tag values ∙ ap (framed tag) (sym (c.in-Ok.ensures.sorted values are))
