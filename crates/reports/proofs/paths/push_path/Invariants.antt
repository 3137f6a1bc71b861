use Rattle.std.proofs.Common.{◌≡◌, length, string_bytes}
use Rattle.reports.specs.Paths.{with_steps}
use Rattle.reports.proofs.paths.push_path.Given as goal

abbrev pub invariant-loop-rest : goal.invariant-loop-rest
invariant-loop-rest l = with_steps (string_bytes l.text) l.rest ≡ with_steps (string_bytes l.fn.text) l.path

abbrev pub decreases-loop-rest : goal.decreases-loop-rest
decreases-loop-rest l = length l.rest
