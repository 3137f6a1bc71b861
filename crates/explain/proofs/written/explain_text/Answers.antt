use Rattle.std.proofs.Common.{refl}
use Rattle.explain.proofs.written.explain_text.Goals as goal

pub returns : goal.returns
returns c = (c.in_ok-report.report, c.in_ok-report.ensures, refl, c.in_ok-text.ensures)
