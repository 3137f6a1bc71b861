use Rattle.private_keys.proofs.EcInDer.{parts_there}
use Rattle.private_keys.proofs.ec_private_key.parts_in_der.Goals as goal

pub returns : goal.returns
returns c = λ limit values are.
    parts_there limit values c.args.octets.now c.in_ok-_version._version.now c.in_ok-key.key.now c.in_ok-curve.curve.now
    c.in_ok-_version.behind.now c.in_ok-key.others.now _ _ are c.in_ok-_version.ensures.is c.in_ok-key.ensures.is
    c.in_ok-curve.ensures
