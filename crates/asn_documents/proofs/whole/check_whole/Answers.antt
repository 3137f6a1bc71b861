use Rattle.std.proofs.Common.{rules}
use Rattle.asn_documents.proofs.WholeInputs.{checked_ended, checked_followed}
use Rattle.asn_documents.proofs.whole.check_whole.Goals as goal

pub returns-in_err-expect_end-clause-checked : goal.returns-in_err-expect_end-clause-checked
returns-in_err-expect_end-clause-checked g c =
    let stops = checked_followed c.args.limits g.T.Element.type_term c.in_err-expect_end.field-0.0 _ _ _
    c.in_ok-count.count c.in_ok-count.place c.in_ok-count.ensures.checked c.in_err-expect_end.ensures.ends in
    search rules

pub returns-clause-checked : goal.returns-clause-checked
returns-clause-checked g c =
    checked_ended c.args.limits g.T.Element.type_term _ _ _ c.in_ok-count.count c.in_ok-count.place
    c.in_ok-count.ensures.checked c.in_ok-expect_end.ensures.ends.0
