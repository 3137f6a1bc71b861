use Rattle.std.proofs.Common.{Bool, Err, IfOk, List, Ok, Result, drop, false, subst, true, ℕ, ◌≡◌}
use Rattle.tlv_core.specs.Limits.{Limits}
use Rattle.tlv_core.specs.declared.fault.Fault.{Fault}
use Rattle.pk_documents.specs.declared.kind.Kind.{Kind}
use Rattle.explain.specs.Afters.{IsAfter, IsAfterBy, is_after_end}
use Rattle.reports.specs.declared.report.After.{After}
use Rattle.reports.specs.declared.report.After.TheVariants.{Unsaid}
use Rattle.reports.specs.declared.report.Answer.TheVariants.{Refused}
use Rattle.explain.proofs.fault.after.after_of.Goals as goal

-- of a document that is refused for the octets after it
of_trailing : {E : Type 0}
    → (limits : Limits) (kind : Kind) (document octets : List ℕ) (fault : Fault) (result : Result After E)
    → true ≡ is_after_end fault → octets ≡ drop fault.at document
    → IfOk result (λ after. IsAfterBy limits kind octets after)
    → IfOk result (λ after. IsAfter limits kind document (Refused fault) after)
of_trailing limits kind document octets fault (Ok after) is from it =
    let IsAfterIf : Bool → Type 0 =
    λ z. elim z [ true ↦ IsAfterBy limits kind (drop fault.at document) after | false ↦ after ≡ Unsaid ] in
    subst IsAfterIf is (subst (λ some. IsAfterBy limits kind some after) from it)
of_trailing limits kind document octets fault (Err error) is from it = tt

pub returns-then-is_after_end : goal.returns-then-is_after_end
returns-then-is_after_end c =
    of_trailing c.args.limits c.args.kind c.args.octets.now c.octets_from.result.now c.args.fault c.after_by.result
    c.if-is_after_end.ensures c.octets_from.ensures c.after_by.ensures
