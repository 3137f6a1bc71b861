use Rattle.std.proofs.Common.{arith, rules}
use Rattle.explain.proofs.Repeats.{is_found, list_ends, no_less, none_more, one_less}
use Rattle.explain.proofs.notes.is_repeated.Goals as goal
use Rattle.explain.proofs.notes.is_repeated.Goals.{else-is_same_field, then-is_same_field+else-is_same_member, then-most-eq0-via-else-most-eq0+then-other-list, then-most-eq0-via-then-most-eq0}

pub returns-then-most-eq0 : goal.returns-then-most-eq0
returns-then-most-eq0 c =
    elim c.then-most-eq0.branch [
      | then-most-eq0-via-then-most-eq0 w ↦
          none_more c.loop-back.most c.args.line.now _ _ (search rules) c.loop-back.invariant
      | then-most-eq0-via-else-most-eq0+then-other-list w ↦
          list_ends c.args.before.now c.loop-back.back c.loop-back.most c.args.line.now
          c.index-before-before.result _ c.loop-back-test.true c.index-before-before.is (omega arith)
          c.loop-back.invariant
    ]

pub returns-then-is_same_member : goal.returns-then-is_same_member
returns-then-is_same_member c =
    is_found c.args.before.now c.loop-back.back c.loop-back.most c.args.line.now c.index-before-before.result _
    c.loop-back-test.true c.index-before-before.is (omega arith) (omega arith) (search rules) (search rules)
    c.loop-back.invariant

pub loop-back-preserved : goal.loop-back-preserved
loop-back-preserved c =
    elim c.if-is_same_field.branch [
      | then-is_same_field+else-is_same_member w ↦
          one_less c.args.before.now c.loop-back.back c.loop-back.most c.if-is_same_field.most c.args.line.now
          c.index-before-before.result _ c.loop-back-test.true c.index-before-before.is (omega arith) (omega arith)
          (omega arith) (search rules) (search rules) c.loop-back.invariant
      | else-is_same_field w ↦
          no_less c.args.before.now c.loop-back.back c.loop-back.most c.if-is_same_field.most c.args.line.now
          c.index-before-before.result _ c.loop-back-test.true c.index-before-before.is (search rules) (omega arith)
          (search rules) c.loop-back.invariant
    ]
