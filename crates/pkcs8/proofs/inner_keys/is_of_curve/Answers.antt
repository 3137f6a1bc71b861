use Rattle.std.proofs.Common.{◌∙◌, inl, inr, sym}
use Rattle.pkcs8.proofs.HeadInDer.{inner_ec_passes}
use Rattle.pkcs8.proofs.inner_keys.is_of_curve.Goals as goal

pub returns-then-is_empty : goal.returns-then-is_empty
returns-then-is_empty c = λ pass earlier value parts curve.
    inner_ec_passes earlier value c.args.key.now c.args.own.now c.args.due.now parts curve
    (inl (sym c.is_empty.ensures ∙ c.if-is_empty.true, sym c.is_long_enough.ensures ∙ pass))

pub returns : goal.returns
returns c = λ pass earlier value parts curve.
    inner_ec_passes earlier value c.args.key.now c.args.own.now c.args.due.now parts curve
    (inr (sym c.is_empty.ensures ∙ c.if-is_empty.false, sym c.are_same_octets.ensures ∙ pass))
