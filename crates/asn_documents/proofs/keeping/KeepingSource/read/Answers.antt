use Rattle.std.proofs.Common.{rules}
use Rattle.asn_documents.proofs.CheckValues.{frame_on, frame_still}
use Rattle.asn_documents.proofs.keeping.KeepingSource.read.Goals as goal

pub returns-in-Ok-clause-frame : goal.returns-in-Ok-clause-frame
returns-in-Ok-clause-frame g c =
    frame_on _ _ _ _ _ _ _ _ _ (search rules)
    (search rules) c.in-Ok.ensures.silent c.in-Ok.ensures.octets.0 c.in-Ok.ensures.frame

pub returns-in-Err-clause-frame : goal.returns-in-Err-clause-frame
returns-in-Err-clause-frame g c =
    frame_still _ _ _ _ _ _ _ _ (search rules)
    (search rules) c.in-Err.ensures.silent c.in-Err.ensures.octets c.in-Err.ensures.frame
