use Rattle.std.proofs.Common.{rules}
use Rattle.asn_documents.proofs.WholeInputs.{ended, ends_badly_inside, followed}
use Rattle.asn_documents.proofs.whole.read_whole_input.Goals as goal

pub returns-in_err-expect_end-clause-reads : goal.returns-in_err-expect_end-clause-reads
returns-in_err-expect_end-clause-reads g c =
    let stops = followed c.args.limits g.T.Element.type_term c.in_err-expect_end.field-0.0
    (g.T.DerText.value c.in-Ok.read.0)
    _ _ _ c.in-Ok.read.1 c.in-Ok.ensures.reads c.in_err-expect_end.ensures.ends in
    search rules

pub returns-in_err-expect_end-clause-inside : goal.returns-in_err-expect_end-clause-inside
returns-in_err-expect_end-clause-inside g c =
    let badly = c.in_err-expect_end.ensures.ends in
    let inside = ends_badly_inside c.in_err-expect_end.field-0.0 badly.0 c.in-Ok.read.1 badly.2 in
    search rules

pub returns-clause-reads : goal.returns-clause-reads
returns-clause-reads g c =
    ended c.args.limits g.T.Element.type_term
    (g.T.DerText.value c.in-Ok.read.0)
    _ _ _ c.in-Ok.read.1 c.in-Ok.ensures.reads c.in_ok-expect_end.ensures.ends.0
