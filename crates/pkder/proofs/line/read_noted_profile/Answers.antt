use Rattle.std.proofs.Common.{◌∙◌, ap}
use Rattle.pkder.specs.CommandLines.{noted_profile}
use Rattle.pkder.proofs.line.read_noted_profile.Goals as goal

pub returns : goal.returns
returns c =
    let named = c.in_ok-named.named in
    (named, c.in_ok-named.ensures, c.noted_profile.ensures ∙ ap (λ word. noted_profile word named) c.value.ensures)
