use Rattle.clap.specs.Words.{found_of}
use Rattle.pkder.proofs.CommandLines.{option_text}
use Rattle.pkder.proofs.line.given.Goals as goal

pub returns : goal.returns
returns c = option_text c.get_str.result (found_of c.args.options.now) c.args.id.now c.get_str.ensures
