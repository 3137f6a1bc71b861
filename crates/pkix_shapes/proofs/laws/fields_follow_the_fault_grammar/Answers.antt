use Rattle.pkix_shapes.proofs.Following.{due_laws}
use Rattle.pkix_shapes.proofs.laws.fields_follow_the_fault_grammar.Goals as goal

pub returns : goal.returns
returns c = due_laws
