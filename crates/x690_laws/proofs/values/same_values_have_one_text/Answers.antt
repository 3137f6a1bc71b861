use Rattle.x690_laws.proofs.TextsAsLayouts.{same_der}
use Rattle.x690_laws.proofs.values.same_values_have_one_text.Goals as goal

pub returns : goal.returns
returns c = same_der
