use Rattle.pkcs8.proofs.HeadInDer.{head_there}
use Rattle.pkcs8.proofs.head_in_der.head_in_der.Goals as goal

pub returns : goal.returns
returns c = λ limit more fields rest are.
    head_there limit more fields c.args.octets.now c.in_ok-version.version.now c.in_ok-version.behind.now
    c.in_ok-contents.contents.now _ c.in_ok-algorithm.algorithm.now c.in_ok-algorithm.parameters.now rest _ _ _ are
    c.in_ok-version.ensures c.in_ok-contents.ensures.is c.in_ok-algorithm.ensures.is
