use Rattle.std.proofs.Common.{MatchResult, codes, rules, subst, sym, ◌≡◌}
use Rattle.clap.specs.Words.{found_of, rows_of}
use Rattle.pkder.specs.CommandLines.{BadAction, DoesAction}
use Rattle.pkder.proofs.line.read_action.Goals as goal

pub returns-then-eq : goal.returns-then-eq
returns-then-eq c =
    let rows = rows_of (found_of c.args.options.now) in
    let is : c.args.name.now ≡ codes "check" = search rules in
    subst (λ name. MatchResult c.read_check.result (DoesAction name rows) (BadAction name rows)) (sym is)
    c.read_check.ensures

pub returns-then-eq-2 : goal.returns-then-eq-2
returns-then-eq-2 c =
    let rows = rows_of (found_of c.args.options.now) in
    let is : c.args.name.now ≡ codes "explain" = search rules in
    subst (λ name. MatchResult c.read_explain.result (DoesAction name rows) (BadAction name rows)) (sym is)
    c.read_explain.ensures
