use Rattle.std.proofs.Common.{◌≡◌, ◌≤◌, None, length}
use Rattle.ber_pull.specs.View.{standing}
use Rattle.rows.proofs.calls.make.replies.Given as goal

abbrev pub invariant-loop-i : goal.invariant-loop-i
invariant-loop-i g l = record {
  few : l.inside ≤ l.i;
  inside : (standing l.pull).error ≡ None → length (standing l.pull).containers ≡ l.inside;
}
