use Rattle.std.proofs.Common.{codes, rules}
use Rattle.clap.specs.Words.{found_of}
use Rattle.pkder.proofs.CommandLines.{texts_of_option}
use Rattle.pkder.proofs.line.read_names.Goals as goal
use Rattle.pkder.proofs.line.read_names.Goals.{in-Some+in_ok-extend_from_slice, in_default}

pub returns : goal.returns
returns c =
    let read = texts_of_option c.get_strs.result (found_of c.args.options.now) (codes "file") c.get_strs.ensures in
    elim c.match-get_strs.branch [
      | in-Some+in_ok-extend_from_slice w ↦ search rules
      | in_default w ↦ search rules
    ]
