use Rattle.reports.proofs.text_lines.+push_big_endian.Given as goal

abbrev pub decreases-push_big_endian : goal.decreases-push_big_endian
decreases-push_big_endian l = l.count
