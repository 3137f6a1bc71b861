use Rattle.std.proofs.Common.{slice_get, sym, ap, ◌∙◌, ◌∷◌, []}
use Rattle.std.proofs.lemmas.Option.{slice_get_past}
use Rattle.pkix_values.proofs.VersionTests.{version_text}
use Rattle.pkix_values.proofs.version.VersionDerText.octet.Goals as goal

pub returns-else-i-lt3 : goal.returns-else-i-lt3
returns-else-i-lt3 g c =
    sym (ap (λ z. slice_get z c.args.i) (version_text c.args.self.now.number)
    ∙ slice_get_past (2 ∷ 1 ∷ c.args.self.now.number ∷ []) c.args.i c.if-i-lt3.false)
