use Rattle.std.proofs.Common.{rules, ◌≡◌, false, true}
use Rattle.x690.specs.Lists.{one_of}
use Rattle.x690.specs.TypeTerms.{DefinedByType}
use Rattle.x690.specs.Values.{leaf_at}
use Rattle.ber_pull.specs.Standing.{enclosing}
use Rattle.asn_elements.proofs.ReaderAnswers.{value_err}
use Rattle.asn_fields.specs.ApartLaws.{either_of}
use Rattle.asn_fields.specs.Dependents.{read_given_behind}
use Rattle.asn_fields.proofs.Dependents.{as_first_type, as_second_type}
use Rattle.asn_fields.proofs.defined_by.DefinedByDependentElement.read.Goals as goal

pub returns-in_err-first-clause-reads : goal.returns-in_err-first-clause-reads
returns-in_err-first-clause-reads g c = λ fields given same fine is.
    let old = c.args.pull.now in
    let path = g.K.Defines.path in
    let octets = g.K.Defines.octets in
    let X = g.X.DependentElement.type_term in
    let Y = g.Y.DependentElement.type_term in
    let ws = g.A.FieldsText.values c.args.earlier.now in
    let chosen : one_of (leaf_at path ws) octets ≡ true = search rules in
    value_err old c.read.new.pull (read_given_behind (DefinedByType path octets X Y) fields old.state given)
    (λ x. either_of g.X.DependentElement.value g.Y.DependentElement.value x.value)
    c.from_residual.result c.in_err-first.field-0.0
    (search rules)
    (as_first_type old.state.limits path octets X Y fields ws same
    (enclosing old.state) given.at given.tag given.constructed _ _ _ _ _ chosen
    (c.in_err-first.ensures.reads fields given same fine is))

pub returns-in_ok-first-clause-reads : goal.returns-in_ok-first-clause-reads
returns-in_ok-first-clause-reads g c = λ fields given same fine is.
    let old = c.args.pull.now in
    let path = g.K.Defines.path in
    let octets = g.K.Defines.octets in
    let X = g.X.DependentElement.type_term in
    let Y = g.Y.DependentElement.type_term in
    let ws = g.A.FieldsText.values c.args.earlier.now in
    let chosen : one_of (leaf_at path ws) octets ≡ true = search rules in
    let read = c.in_ok-first.ensures.reads fields given same fine is in (
      read.0,
      read.1,
      as_first_type old.state.limits path octets X Y fields ws same
          (enclosing old.state) given.at given.tag given.constructed _ _ _ _ _ chosen read.2,
    )

pub returns-in_err-second-clause-reads : goal.returns-in_err-second-clause-reads
returns-in_err-second-clause-reads g c = λ fields given same fine is.
    let old = c.args.pull.now in
    let path = g.K.Defines.path in
    let octets = g.K.Defines.octets in
    let X = g.X.DependentElement.type_term in
    let Y = g.Y.DependentElement.type_term in
    let ws = g.A.FieldsText.values c.args.earlier.now in
    let chosen : one_of (leaf_at path ws) octets ≡ false = search rules in
    value_err old c.read-else-is_first.new.pull
    (read_given_behind (DefinedByType path octets X Y) fields old.state given)
    (λ x. either_of g.X.DependentElement.value g.Y.DependentElement.value x.value)
    c.from_residual-in_err-second.result c.in_err-second.field-0.0
    (search rules)
    (as_second_type old.state.limits path octets X Y fields ws same
    (enclosing old.state) given.at given.tag given.constructed _ _ _ _ _ chosen
    (c.in_err-second.ensures.reads fields given same fine is))

pub returns-in_ok-second-clause-reads : goal.returns-in_ok-second-clause-reads
returns-in_ok-second-clause-reads g c = λ fields given same fine is.
    let old = c.args.pull.now in
    let path = g.K.Defines.path in
    let octets = g.K.Defines.octets in
    let X = g.X.DependentElement.type_term in
    let Y = g.Y.DependentElement.type_term in
    let ws = g.A.FieldsText.values c.args.earlier.now in
    let chosen : one_of (leaf_at path ws) octets ≡ false = search rules in
    let read = c.in_ok-second.ensures.reads fields given same fine is in (
      read.0,
      read.1,
      as_second_type old.state.limits path octets X Y fields ws same
          (enclosing old.state) given.at given.tag given.constructed _ _ _ _ _ chosen read.2,
    )
