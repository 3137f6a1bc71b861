use Rattle.std.proofs.Common.{rules, sym}
use Rattle.asn_open_values.specs.OpenValues.{open_value_of}
use Rattle.pkix_values.proofs.Rules.{parameters_allowed, parameters_refused}
use Rattle.pkix_values.proofs.algorithm.AlgorithmFieldsRuledFields.judge.Goals as goal

pub returns-then-is_some-2 : goal.returns-then-is_some-2
returns-then-is_some-2 c =
    sym (parameters_refused open_value_of c.args.self.now.0.0.0 c.args.self.now.0.1.0 (search rules)
    (search rules))

pub returns-else-is_some : goal.returns-else-is_some
returns-else-is_some c =
    sym (parameters_allowed open_value_of c.args.self.now.0.0.0 c.args.self.now.0.1.0 (search rules))
