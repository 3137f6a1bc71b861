use Rattle.std.proofs.Common.{[], append-nil, subst, sym}
use Rattle.std.proofs.KnownBytes.{Consumes-nil}
use Rattle.commands.specs.Each.{IsBegun, kinds_for}
use Rattle.commands.proofs.each.next_of.Goals as goal

pub loop-begun-init : goal.loop-begun-init
loop-begun-init g c = record {
  taken = ([], Consumes-nil (g.R.Source.remaining c.args.src.now), sym (append-nil c.args.ahead.now.items));
  begun = subst (λ it. IsBegun c.args.task.now.limits it (kinds_for c.args.task.now.kind) c.in_ok-begun.begun)
      c.as_slice.ensures.value c.in_ok-begun.ensures;
  live = c.requires;
}
