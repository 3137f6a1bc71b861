use Rattle.std.proofs.Common.{ap, is_some, refl, string_bytes, subst, sym, ◌∙◌}
use Rattle.pk_documents.specs.Kinds.{type_of}
use Rattle.comparison.specs.Sameness.{IsAccepted, IsJudged}
use Rattle.comparison.proofs.Samenesses.{accepted, compared_result, judged, neither, refused_result}
use Rattle.comparison.proofs.same.same_text.Goals as goal

pub returns-then-is_any : goal.returns-then-is_any
returns-then-is_any c =
    let l = c.args.limits in
    let type = type_of c.args.kind in
    let first = c.args.documents.first.now in
    let second = c.args.documents.second.now in
    refused_result (λ it. string_bytes it.0) (λ it. it.1) c.refused.result c.args.form l c.args.kind
    c.args.names.first.now c.args.names.second.now first second _ c.row.result.word.now c.fault-fault.result
    c.fault-other_fault.result refl c.row.ensures.word
    (record {
      judged =
          subst (IsJudged l type first) (sym c.fault-fault.ensures)
          (judged l type first c.in_ok-reading.reading c.in_ok-reading.ensures);
      other_judged =
          subst (IsJudged l type second) (sym c.fault-other_fault.ensures)
          (judged l type second c.in_ok-other.other c.in_ok-other.ensures);
      some = sym c.is_any.ensures ∙ c.if-is_any.true;
    })
    c.refused.ensures.text c.refused.ensures.sameness

pub returns : goal.returns
returns c =
    let l = c.args.limits in
    let type = type_of c.args.kind in
    let first = c.args.documents.first.now in
    let second = c.args.documents.second.now in
    let none = neither _ _ (sym c.is_any.ensures ∙ c.if-is_any.false) in
    compared_result (λ it. string_bytes it.0) (λ it. it.1) c.compared.result c.args.form l c.args.kind
    c.args.names.first.now c.args.names.second.now first second c.encoding.result.now c.encoding-2.result.now _
    c.row.result.word.now refl c.row.ensures.word
    (subst (IsAccepted l type first) (sym c.encoding.ensures)
    (accepted l type first c.in_ok-reading.reading c.in_ok-reading.ensures
    (sym (ap is_some c.fault-fault.ensures) ∙ none.0)))
    (subst (IsAccepted l type second) (sym c.encoding-2.ensures)
    (accepted l type second c.in_ok-other.other c.in_ok-other.ensures
    (sym (ap is_some c.fault-other_fault.ensures) ∙ none.1)))
    c.compared.ensures
