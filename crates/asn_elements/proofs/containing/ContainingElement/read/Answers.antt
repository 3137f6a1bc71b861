use Rattle.std.proofs.Common.{rules, [], None, refl, subst}
use Rattle.x690.specs.DerTexts.{der}
use Rattle.x690.specs.Layouts.{universal}
use Rattle.x690.specs.Reads.{Said}
use Rattle.x690.specs.TypeTerms.{ContainingType, no_rule}
use Rattle.x690.specs.Values.{Leaf}
use Rattle.ber_pull.specs.Hears.{heard_error}
use Rattle.ber_pull.specs.Standing.{enclosing}
use Rattle.ber_pull.specs.View.{Answers}
use Rattle.asn_elements.proofs.RuledReadings.{rule_holds}
use Rattle.asn_elements.specs.Reading.{read_given}
use Rattle.asn_elements.proofs.ReaderAnswers.{value_err}
use Rattle.asn_elements.specs.Contained.{read_given_contained}
use Rattle.asn_elements.proofs.Contained.{containing, containing_error, same_octets_inside}
use Rattle.asn_elements.proofs.containing.ContainingElement.read.Goals as goal

pub returns-in_err-inner-clause-reads : goal.returns-in_err-inner-clause-reads
returns-in_err-inner-clause-reads g c = λ given fine is.
    let old = c.args.pull.now in
    let new = c.read_contained.new.pull in
    let T = g.T.Element.type_term in
    let e = c.in_err-inner.field-0.0 in
    let read = subst
    (λ own. Answers old new (read_given_contained own T [] old.state given) (heard_error e)) c.universal_tag.ensures
    (c.in_err-inner.ensures.reads [] given fine is) in
    value_err old new (read_given (ContainingType (universal 4) no_rule T) old.state given)
    (λ x. Leaf (universal 4) (der (g.T.DerText.value x.inner))) c.from_residual.result e (search rules)
    (containing_error old.state.limits (universal 4) no_rule T []
    (enclosing old.state) given.at given.tag given.constructed e _ _ _ _ read)

pub returns-clause-reads : goal.returns-clause-reads
returns-clause-reads g c = λ given fine is.
    let old = c.args.pull.now in
    let new = c.read_contained.new.pull in
    let T = g.T.Element.type_term in
    let found = c.in_ok-inner.ensures.reads [] given fine is in
    let v = found.0 in
    let w = Leaf (universal 4) (der v) in
    let read = subst (λ own. Answers old new (read_given_contained own T [] old.state given) (Said v))
    c.universal_tag.ensures found.2 in (
      w,
      same_octets_inside (universal 4) v (g.T.DerText.value c.in_ok-inner.inner) found.1,
      containing old.state.limits (universal 4) no_rule T []
          (enclosing old.state) given.at given.tag given.constructed v (Said w) _ _ _ _ _ _ read
          (rule_holds given.at None w _ _ refl),
    )
