use Rattle.explain.proofs.Promised.{promised}
use Rattle.explain.proofs.laws.reports_show_nothing_private.Goals as goal

pub returns : goal.returns
returns c = λ profile limits of one other report same h.
    promised profile limits of other report (record {
      disclosed = h.worded.disclosed;
      is_disclosed = same.same h.worded.disclosed h.worded.is_disclosed;
      made_of = h.worded.made_of;
    })
