use Rattle.std.proofs.Common.{length}
use Rattle.pk_documents.proofs.kind.+first_numbered.Given as goal

abbrev pub decreases-first_numbered : goal.decreases-first_numbered
decreases-first_numbered l = length l.kinds.now
