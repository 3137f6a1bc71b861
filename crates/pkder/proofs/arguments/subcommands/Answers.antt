use Rattle.std.proofs.Common.{refl}
use Rattle.pkder.proofs.arguments.subcommands.Goals as goal

pub returns : goal.returns
returns c = refl
