use Rattle.std.proofs.Common.{ap}
use Rattle.tlv_core.specs.Texts.{dotted, oid_text}
use Rattle.tlv_core.proofs.Arcs.{arcs_told}
use Rattle.tlv_core.proofs.text.arcs_are_told.Goals as goal

pub returns : goal.returns
unfolding oid_text
returns c = λ arcs contents h. ap dotted (arcs_told arcs contents h)
