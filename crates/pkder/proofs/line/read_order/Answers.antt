use Rattle.std.proofs.Common.{◌≡◌, ◌∙◌, codes, false, inl, inr, refl, rules, sym}
use Rattle.std.proofs.lemmas.Result.{err_from_is_err_and}
use Rattle.clap.specs.Words.{found_of, rows_of}
use Rattle.pkder.specs.CommandLines.{is_each_of_list, is_input_twice}
use Rattle.pkder.proofs.CommandLines.{each_of_list, each_without_list, not_each, option_text}
use Rattle.pkder.proofs.line.read_order.Goals as goal
use Rattle.pkder.proofs.line.read_order.Goals.{else-each-via-else-each, else-each-via-then-each+else-is_some}

pub returns-in_err-task-clause-refused : goal.returns-in_err-task-clause-refused
returns-in_err-task-clause-refused c =
    let error = err_from_is_err_and c.from_residual.result c.from_residual.ensures.1 in
    rw (error.1, error.2) (inl c.in_err-task.ensures.refused)

pub returns-then-is_some-clause-means : goal.returns-then-is_some-clause-means
returns-then-is_some-clause-means c =
    let found = found_of c.args.options.now in
    let listed = option_text c.get_str-list.result found (codes "files0-from") c.get_str-list.ensures in
    let both = each_of_list c.is_flagged-each.result c.get_str-list.result (rows_of found) c.is_flagged-each.ensures
    listed c.if-each.true (sym c.is_some.ensures ∙ c.if-is_some.true) in
    λ order means. cc (both, means.3)

pub returns-then-is_some-clause-refused : goal.returns-then-is_some-clause-refused
returns-then-is_some-clause-refused c =
    let found = found_of c.args.options.now in
    let once : is_input_twice (rows_of found) ≡ false = search rules in
    let listed = option_text c.get_str-list.result found (codes "files0-from") c.get_str-list.ensures in
    let both = each_of_list c.is_flagged-each.result c.get_str-list.result (rows_of found) c.is_flagged-each.ensures
    listed c.if-each.true (sym c.is_some.ensures ∙ c.if-is_some.true) in
    inr ((c.in_ok-task.task, c.in_ok-task.ensures.means), inr (once, ((refl, refl, refl), both, refl)))

pub returns-clause-means : goal.returns-clause-means
returns-clause-means c =
    let found = found_of c.args.options.now in
    let rows = rows_of found in
    let once : is_input_twice rows ≡ false = search rules in
    let listed = option_text c.get_str-list.result found (codes "files0-from") c.get_str-list.ensures in
    let each = c.is_flagged-each in
    let alone : is_each_of_list rows ≡ false = elim c.else-each.branch [
      | else-each-via-then-each+else-is_some w ↦
          each_without_list each.result c.get_str-list.result rows each.ensures listed w.if-each.true
          (sym w.is_some.ensures ∙ w.if-is_some.false)
      | else-each-via-else-each w ↦
          not_each each.result c.get_str-list.result rows each.ensures listed w.if-each.false
    ] in (
      c.in_ok-task.ensures.means,
      (
        c.requires,
        listed,
        option_text c.get_str.result found (codes "to") c.get_str.ensures,
        c.is_flagged.ensures,
        each.ensures,
      ),
      once,
      alone,
    )
