use Rattle.pkix_values.proofs.InDer.{oid_there}
use Rattle.pkix_values.proofs.request_attribute.OidIsOid.oid_in_der.Goals as goal

pub returns : goal.returns
returns c = λ limit value rest b.
    oid_there limit value c.args.octets.now c.in_ok-contents.contents.now rest _ _ b c.in_ok-contents.ensures.is
