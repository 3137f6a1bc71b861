use Rattle.std.proofs.Common.{inl, refl, rules, subst, true, ◌≡◌}
use Rattle.std.specs.Prelude.{MatchBool}
use Rattle.commands.specs.Outcomes.{IsWhole}
use Rattle.commands.proofs.Replies.{written_fails, written_speaks}
use Rattle.commands.proofs.any.write_whole.Goals as goal

pub returns-clause-wrote : goal.returns-clause-wrote
returns-clause-wrote g c =
    let is : c.is_whole.result ≡ true = first_of (search rules, cc) in
    inl (
      subst (λ b. MatchBool b (IsWhole c.args.end) (IsWhole c.args.end → ⊥)) is c.is_whole.ensures,
      (c.write_octets.result, g.W.Target.has_failed c.write_octets.new.dst, c.written.ensures, c.write_octets.ensures),
    )

pub returns-clause-unwritten : goal.returns-clause-unwritten
returns-clause-unwritten g c =
    let is : c.is_whole.result ≡ true = first_of (search rules, cc) in
    λ silent.
    absurd (written_speaks c.write_octets.result c.written.result c.args.end c.written.ensures
    (subst (λ b. MatchBool b (IsWhole c.args.end) (IsWhole c.args.end → ⊥)) is c.is_whole.ensures) silent)

pub returns-clause-failed : goal.returns-clause-failed
returns-clause-failed g c =
    let is : c.is_whole.result ≡ true = first_of (search rules, cc) in
    written_fails c.args.text.now (g.W.Target.contents c.args.dst.now) (g.W.Target.contents c.write_octets.new.dst)
    c.write_octets.result c.written.result c.args.end _ (g.W.Target.has_failed c.write_octets.new.dst)
    c.written.ensures (subst (λ b. MatchBool b (IsWhole c.args.end) (IsWhole c.args.end → ⊥)) is c.is_whole.ensures)
    c.write_octets.ensures refl
