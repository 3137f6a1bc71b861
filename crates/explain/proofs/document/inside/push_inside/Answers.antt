use Rattle.std.proofs.Common.{subst, sym}
use Rattle.pkix_shapes.specs.Terms.{term_of}
use Rattle.explain.specs.Insides.{IsDocumentIn, IsValueOf}
use Rattle.explain.proofs.Listed.{adds_inside, carries_one}
use Rattle.explain.proofs.Outlined.{rest_of}
use Rattle.explain.proofs.document.inside.push_inside.Goals as goal

pub returns-in-Some-contained : goal.returns-in-Some-contained
returns-in-Some-contained c =
    adds_inside c.args.search.now c.args.file.now c.args.elements.now c.args.number c.in-Some.element.now
    c.in-Some-contained.shape _ _ c.in_ok-inside.inside (sym c.in-Some.ensures.item) (sym c.in-Some-contained.ensures)
    (subst
    (λ elements.
    IsDocumentIn c.args.search.now.limits c.args.file.now elements c.args.number c.in-Some-contained.shape
    c.in_ok-inside.inside)
    (rest_of c.args.number c.args.elements.now) c.in_ok-inside.ensures.is) c.in_ok-inside.ensures.carried
    c.in_ok-push.ensures.items

pub returns : goal.returns
returns c =
    carries_one c.args.search.now c.args.file.now c.args.elements.now c.args.number c.in-Some.element.now
    (term_of c.in-Some-carried_type.shape.now) _ _ c.in_ok-inside-2.inside (sym c.in-Some.ensures.item)
    (sym c.in_default-contained.ensures) c.in-Some-carried_type.ensures.type_term
    (subst
    (λ elements.
    IsValueOf c.args.search.now.limits c.args.file.now elements c.args.number
    (term_of c.in-Some-carried_type.shape.now) c.in_ok-inside-2.inside)
    (rest_of c.args.number c.args.elements.now) c.in_ok-inside-2.ensures)
    c.in_ok-push-2.ensures.items
