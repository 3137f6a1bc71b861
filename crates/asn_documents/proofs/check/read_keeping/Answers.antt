use Rattle.asn_documents.proofs.CheckValues.{frame_whole}
use Rattle.asn_documents.proofs.check.read_keeping.Goals as goal

pub returns-clause-same_source : goal.returns-clause-same_source
returns-clause-same_source g c = (frame_whole _ _ _ _ _ _ c.read_value.ensures.frame).0

pub returns-clause-whole : goal.returns-clause-whole
returns-clause-whole g c = (frame_whole _ _ _ _ _ _ c.read_value.ensures.frame).1.0

pub returns-clause-frame : goal.returns-clause-frame
returns-clause-frame g c = (frame_whole _ _ _ _ _ _ c.read_value.ensures.frame).1.1
