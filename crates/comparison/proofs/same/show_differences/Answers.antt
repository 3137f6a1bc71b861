use Rattle.std.proofs.Common.{map, rules}
use Rattle.comparison.specs.DifferenceWords.{words_of}
use Rattle.comparison.proofs.FirstDifferences.{shown_first}
use Rattle.comparison.proofs.same.show_differences.Goals as goal

pub returns : goal.returns
returns c =
    let report = c.in_ok-report.report in
    let other = c.in_ok-other_report.other_report in
    record {
      report = report;
      other_report = other;
      reported = c.in_ok-report.ensures;
      other_reported = c.in_ok-other_report.ensures;
      first =
          shown_first report.kind.type_name.now c.args.encodings.first.now c.args.encodings.second.now
          report.lines.items other.lines.items
          c.deref.result.now c.deref-2.result.now c.deref-3.result.now c.deref-4.result.now c.in_ok-all.all.items
          c.deref-5.result.now (map words_of c.in_ok-shown.shown.items) c.len.result c.left_out.result
          c.deref.ensures.value c.deref-2.ensures.value c.deref-3.ensures.value c.deref-4.ensures.value
          c.in_ok-all.ensures c.deref-5.ensures.value c.in_ok-shown.ensures (search rules) c.left_out.ensures;
    }
