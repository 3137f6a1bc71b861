use Rattle.asn_fields.proofs.dependent.IndependentDependentElement.judge.Goals as goal

pub returns : goal.returns
returns g c = λ fields behind are. (c.in_ok-rest.ensures.0, c.in_ok-rest.ensures.1 fields)
