use Rattle.std.proofs.Common.{◌∙◌, rules, sym}
use Rattle.x690.specs.Layouts.{universal}
use Rattle.x690.specs.Values.{Sequence, values_of}
use Rattle.private_keys.proofs.EcInDer.{ec_passes}
use Rattle.private_keys.proofs.ec_private_key.EcFieldsRuledFields.pass_in_der.Goals as goal

pub returns-in-Some : goal.returns-in-Some
returns-in-Some c = λ pass limit values are.
    ec_passes (Sequence (universal 16) (values_of values)) c.in-Some.key.now c.in-Some.curve.now
    (c.in-Some.ensures limit values are) (sym c.is_long_enough.ensures ∙ pass)
