use Rattle.pkcs8.proofs.HeadInDer.{version_stands}
use Rattle.pkcs8.proofs.head_in_der.version_in_der.Goals as goal

pub returns : goal.returns
returns c =
    version_stands c.args.octets.now c.in-len3-up.len_at_least c.if-identifier-ne2.false c.if-length-ne1.false
