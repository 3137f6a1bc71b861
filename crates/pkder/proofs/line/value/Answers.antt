use Rattle.std.proofs.Common.{◌∙◌, ap, refl}
use Rattle.clap.specs.Words.{found_of}
use Rattle.pkder.proofs.CommandLines.{text_of_option}
use Rattle.pkder.proofs.line.value.Goals as goal

pub returns : goal.returns
returns c =
    ap (λ text. text.now) c.unwrap_or.ensures
    ∙ text_of_option c.get_str.result _ (found_of c.args.options.now) c.args.id.now refl c.get_str.ensures
