use Rattle.pk_documents.proofs.PartsStand.{part_stands}
use Rattle.pk_documents.proofs.laws.parts_stand_in_the_text.Goals as goal

pub returns : goal.returns
returns c = part_stands
