use Rattle.std.proofs.Common.{MatchResult, false, inl, rules, subst, sym, true, ◌≡◌}
use Rattle.clap.specs.Words.{found_of, rows_of}
use Rattle.pkder.specs.CommandLines.{MeansInvocation, is_same}
use Rattle.pkder.specs.declared.line.Invocation.{Invocation}
use Rattle.pkder.proofs.CommandLines.{no_pair}
use Rattle.pkder.proofs.line.read_invocation.Goals as goal
use Rattle.pkder.proofs.line.read_invocation.Goals.{in-Ok, in-Err}

pub returns-then-eq-clause-means : goal.returns-then-eq-clause-means
returns-then-eq-clause-means c =
    let name = c.args.name.now in
    let rows = rows_of (found_of c.args.options.now) in
    let same : is_same name ≡ true = search rules in
    elim c.match-read_pair.branch [
      | in-Ok w ↦
          subst (λ r.
          MatchResult r (MeansInvocation name rows)
          (λ _. (invocation : Invocation) → MeansInvocation name rows invocation → ⊥))
          (sym w.result-is) (same, w.in-Ok.ensures.means)
      | in-Err w ↦
          subst (λ r.
          MatchResult r (MeansInvocation name rows)
          (λ _. (invocation : Invocation) → MeansInvocation name rows invocation → ⊥))
          (sym w.result-is) (no_pair name rows same w.in-Err.ensures.means)
    ]

pub returns-in-Err-read_order-clause-refused : goal.returns-in-Err-read_order-clause-refused
returns-in-Err-read_order-clause-refused c =
    let other : is_same c.args.name.now ≡ false = search rules in
    inl (other, c.in-Err-read_order.ensures.refused)
