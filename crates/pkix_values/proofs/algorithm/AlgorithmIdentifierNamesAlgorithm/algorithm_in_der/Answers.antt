use Rattle.pkix_values.proofs.InDer.{algorithm_there}
use Rattle.pkix_values.proofs.algorithm.AlgorithmIdentifierNamesAlgorithm.algorithm_in_der.Goals as goal

pub returns : goal.returns
returns c = λ limit value rest b.
    algorithm_there limit value c.args.octets.now c.in_ok-contents.contents.now c.in_ok-algorithm.algorithm.now rest
    _ _ _ _ b c.in_ok-contents.ensures.is c.in_ok-algorithm.ensures.is
