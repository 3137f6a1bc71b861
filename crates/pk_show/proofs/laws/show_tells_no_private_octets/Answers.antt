use Rattle.pk_show.proofs.PublicTexts.{documents_alike}
use Rattle.pk_show.proofs.laws.show_tells_no_private_octets.Goals as goal

pub returns : goal.returns
returns c = documents_alike
