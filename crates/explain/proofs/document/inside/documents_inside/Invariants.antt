use Rattle.explain.specs.Insides.{HasInsides}
use Rattle.explain.proofs.document.inside.documents_inside.Given as goal

abbrev pub invariant-loop-i : goal.invariant-loop-i
invariant-loop-i l = HasInsides l.search l.file l.elements l.i l.all.items
