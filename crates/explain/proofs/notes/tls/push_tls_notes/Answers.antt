use Rattle.std.proofs.Common.{ap, ◌+◌}
use Rattle.std.proofs.lemmas.List.{drop_all, take_rest}
use Rattle.explain.specs.ProfileNotes.{tls_notes_from}
use Rattle.explain.proofs.Taken.{all_taken, few_more, one_tls_line}
use Rattle.explain.proofs.notes.tls.push_tls_notes.Goals as goal

pub loop-i-preserved : goal.loop-i-preserved
loop-i-preserved c = record {
  few = rw c.in_ok-push_note.ensures
      (few_more _ c.loop-i.i c.tls_remark_on.result c.loop-i.invariant.few);
  are = one_tls_line c.args.lines.now c.loop-i.i c.index-lines-i.result c.loop-i.context
      c.context_after-context.result c.tls_remark_on.result c.loop-i.notes.items _ _ c.loop-i-test.true
      c.index-lines-i.is
      (rw (take_rest c.args.lines.now (c.loop-i.i + 1)) at c.tls_remark_on.ensures)
      (rw (take_rest c.args.lines.now (c.loop-i.i + 1)) at c.context_after-context.ensures)
      c.in_ok-push_note.ensures c.loop-i.invariant.are;
}

pub returns-clause-are : goal.returns-clause-are
returns-clause-are c =
    all_taken c.loop-i.notes.items _ _
    (ap (tls_notes_from c.args.lines.now c.loop-i.context c.loop-i.i)
    (drop_all c.loop-i.i c.args.lines.now c.loop-i-test.false))
    c.loop-i.invariant.few c.loop-i.invariant.are
