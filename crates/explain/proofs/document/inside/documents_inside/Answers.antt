use Rattle.explain.proofs.Listed.{inside_more}
use Rattle.explain.proofs.document.inside.documents_inside.Goals as goal

pub loop-i-preserved : goal.loop-i-preserved
loop-i-preserved c =
    inside_more c.args.search.now c.args.file.now c.args.elements.now c.loop-i.i _ _ c.loop-i.invariant
    c.in_ok-push_inside.ensures
