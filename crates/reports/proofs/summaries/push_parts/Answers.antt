use Rattle.std.proofs.Common.{◌++◌, codes, string_bytes}
use Rattle.reports.specs.Asks.{others_said, subject_line}
use Rattle.reports.specs.Keys.{key_line}
use Rattle.reports.specs.Summaries.{parts_said}
use Rattle.reports.specs.Texts.{line_feed}
use Rattle.reports.proofs.Appends.{further, past}
use Rattle.reports.proofs.summaries.push_parts.Goals as goal

pub returns : goal.returns
unfolding parts_said
returns c =
    let old = string_bytes c.args.text.now in
    let subject = subject_line c.args.subject.now in
    let key = key_line (codes "  key        ") c.args.key.now line_feed in
    let signature = key_line (codes "  signature  ") c.args.algorithm.now (codes ", not verified\n") in
    let two = further (string_bytes c.push_key_line.new.text) (string_bytes c.push_subject.new.text) old subject key
    c.in_ok-push_subject.ensures c.in_ok-push_key_line.ensures in
    let three = further (string_bytes c.push_key_line-2.new.text) (string_bytes c.push_key_line.new.text) old
    (subject ++ key) signature two c.in_ok-push_key_line-2.ensures in
    past c.push_others.result (string_bytes c.push_others.new.text) (string_bytes c.push_key_line-2.new.text) old
    (subject ++ key ++ signature) (others_said c.args.lines.now) three c.push_others.ensures
