use Rattle.std.proofs.Common.{rules}
use Rattle.std.proofs.Common.{inl, inr}
use Rattle.asn_fields.proofs.FieldsInDer.{defined_stands}
use Rattle.asn_fields.proofs.defined_by.DefinedByDependentElement.judge.Goals as goal

pub returns-then-branch : goal.returns-then-branch
returns-then-branch g c = λ fields behind are.
    let f = c.in_ok-rest.ensures fields behind are in (
      f.0,
      defined_stands c.args.limits.depth c.args.left g.K.Defines.path g.K.Defines.octets g.X.DependentElement.type_term
          g.Y.DependentElement.type_term fields f.0 c.args.octets.now c.in_ok-rest.rest.now
          c.in_ok-is_first_in_der.field-0
          (c.in_ok-is_first_in_der.ensures c.args.limits.depth fields behind are) (inl (search rules, f.1)),
    )

pub returns : goal.returns
returns g c = λ fields behind are.
    let f = c.in_ok-rest-2.ensures fields behind are in (
      f.0,
      defined_stands c.args.limits.depth c.args.left g.K.Defines.path g.K.Defines.octets g.X.DependentElement.type_term
          g.Y.DependentElement.type_term fields f.0 c.args.octets.now c.in_ok-rest-2.rest.now
          c.in_ok-is_first_in_der.field-0
          (c.in_ok-is_first_in_der.ensures c.args.limits.depth fields behind are) (inr (search rules, f.1)),
    )
