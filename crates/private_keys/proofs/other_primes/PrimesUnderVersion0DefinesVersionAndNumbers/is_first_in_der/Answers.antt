use Rattle.std.proofs.Common.{◌∙◌, ◌∷◌, [], ap, sym}
use Rattle.x690.specs.Lists.{one_of}
use Rattle.pkix_definitions.specs.Paths.{version_0, version_1}
use Rattle.pkix_values.proofs.InDer.{version_first}
use Rattle.private_keys.specs.RsaNumbers.{integers_due}
use Rattle.private_keys.proofs.other_primes.PrimesUnderVersion0DefinesVersionAndNumbers.is_first_in_der.Goals as goal

pub returns : goal.returns
returns c = λ limit fields behind are.
    c.names_version_0.ensures
    ∙ ap (λ v. one_of v (version_0 ∷ []))
    (sym (version_first limit (version_0 ∷ version_1 ∷ []) (integers_due 8) fields c.args.earlier.now
    c.in_ok-version.version.now _ behind _ are c.in_ok-version.ensures.is))
