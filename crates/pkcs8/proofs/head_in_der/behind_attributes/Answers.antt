use Rattle.std.proofs.Common.{true}
use Rattle.pkcs8.proofs.PublicKeyInDer.{key_behind}
use Rattle.pkcs8.proofs.head_in_der.behind_attributes.Goals as goal

pub returns-in-Some : goal.returns-in-Some
returns-in-Some c = λ h.
    key_behind _ true c.in-Some._attributes.now c.args.octets.now c.in-Some.behind.now c.in-Some.ensures.is h
