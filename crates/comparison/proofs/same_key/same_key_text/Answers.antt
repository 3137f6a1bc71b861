use Rattle.std.proofs.Common.{string_bytes, subst, sym, ◌∙◌}
use Rattle.pk_documents.proofs.DocumentValues.{valued}
use Rattle.comparison.specs.KeySameness.{IsJudgedKey, IsKeyReading}
use Rattle.comparison.proofs.Keys.{compared_result, judged, refused_result}
use Rattle.comparison.proofs.same_key.same_key_text.Goals as goal

pub returns-then-is_any : goal.returns-then-is_any
returns-then-is_any c =
    let l = c.args.limits in
    let first = c.args.documents.first.now in
    let second = c.args.documents.second.now in
    refused_result (λ it. string_bytes it.0) (λ it. it.1) c.refused.result valued l c.args.kind c.args.other_kind
    c.args.names.first.now c.args.names.second.now first second c.fault-fault.result c.fault-other_fault.result
    (subst (IsJudgedKey valued l c.args.kind first) (sym c.fault-fault.ensures)
    (judged valued l c.args.kind first c.in_ok-reading.reading c.in_ok-reading.ensures))
    (subst (IsJudgedKey valued l c.args.other_kind second) (sym c.fault-other_fault.ensures)
    (judged valued l c.args.other_kind second c.in_ok-other.other c.in_ok-other.ensures))
    (sym c.is_any.ensures ∙ c.if-is_any.true) c.refused.ensures.lines c.refused.ensures.answer

pub returns : goal.returns
returns c =
    let l = c.args.limits in
    let first = c.args.documents.first.now in
    let second = c.args.documents.second.now in
    compared_result (λ it. string_bytes it.0) (λ it. it.1) c.compared.result valued l c.args.kind c.args.other_kind
    c.args.names.first.now c.args.names.second.now first second c.in-Accepted.document c.in-Accepted-other.other
    (subst (IsKeyReading valued l c.args.kind first) c.in-Accepted.is c.in_ok-reading.ensures)
    (subst (IsKeyReading valued l c.args.other_kind second) c.in-Accepted-other.is c.in_ok-other.ensures)
    c.compared.ensures.answer c.compared.ensures.line
