use Rattle.std.proofs.Common.{rules, ◌≡◌, None}
use Rattle.asn_open_values.specs.OpenValues.{open_value_of}
use Rattle.pkix_values.proofs.Rules.{parameters_bare}
use Rattle.pkix_values.proofs.algorithm.AlgorithmIdentifier.parameters.Goals as goal

pub returns-clause-bare : goal.returns-clause-bare
returns-clause-bare c = λ e.
    let none : c.args.self.now.0.value.fields.0.1.0 ≡ None = parameters_bare open_value_of
    c.args.self.now.0.value.fields.0.0.0 c.args.self.now.0.value.fields.0.1.0 c.args.self.now.0.judged e in
    search rules
