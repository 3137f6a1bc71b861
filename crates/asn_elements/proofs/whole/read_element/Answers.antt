use Rattle.std.proofs.Common.{rules, ◌∙◌, ◌≤◌, Bool, Err, IfSome, Ok, ap, arith, subst}
use Rattle.tlv_core.specs.Identifier.{Tag}
use Rattle.ber_pull.specs.Hears.{next_at}
use Rattle.ber_pull.specs.Standing.{IsGiven, place}
use Rattle.ber_pull.specs.declared.state.Given.{Given}
use Rattle.ber_pull.proofs.Hearing.{hears_as, hears_said}
use Rattle.asn_elements.proofs.Firsts.{element_answers, element_next, element_err, first_next, element_said, text_short, given_next, never_ends, next_stops, read_as}
use Rattle.asn_elements.proofs.whole.read_element.Goals as goal

pub returns-in_err-next_tag-clause-reads : goal.returns-in_err-next_tag-clause-reads
returns-in_err-next_tag-clause-reads g c =
    let l = c.args.limits in
    let heard = first_next l c.args.src.now c.new-pull.result c.next_tag.new.self
    (Err c.in_err-next_tag.field-0.0)
    c.new-pull.ensures.start c.new-pull.ensures.same c.in_err-next_tag.ensures.reads in
    let same_limits = c.in_err-next_tag.ensures.frame.onward.same_limits ∙ ap (λ w. w.limits) c.new-pull.ensures.start in
    let still = ap (λ w. w.octets) same_limits in
    let inside = c.next_tag.new.self.within in
    let within : c.next_tag.new.self.state.taken ≤ l.octets = omega arith in
    element_err g.R.Source.remaining l g.T.Element.type_term g.T.DerText.value c.in_err-next_tag.field-0.0 _
    (g.R.Source.remaining c.args.src.now) c.next_tag.new.self.src.now _ c.from_residual.result (search rules)
    (search rules) within
    (next_stops l g.T.Element.type_term c.in_err-next_tag.field-0.0 c.next_tag.new.self.state.taken _ _ heard)

pub unreachable-requires : goal.unreachable-requires
unreachable-requires g c =
    let heard = first_next c.args.limits c.args.src.now c.new-pull.result c.next_tag.new.self
    (Ok c.in_ok-next_tag.field-0) c.new-pull.ensures.start c.new-pull.ensures.same c.in_ok-next_tag.ensures.reads in
    never_ends c.args.limits 0 c.next_tag.new.self.state.taken _ _
    (hears_said _ _ _ _ _ _ _ (ap (next_at 0) c.in_default.is) heard)

pub returns-in_err-value-clause-reads : goal.returns-in_err-value-clause-reads
returns-in_err-value-clause-reads g c =
    let l = c.args.limits in
    let T = g.T.Element.type_term in
    let t : Tag × Bool = c.in-Some.field-0 in
    let given : Given = record { at = 0; tag = t.0; constructed = t.1 } in
    let heard = element_next l c.args.src.now c.new-pull.result c.next_tag.new.self c.in_ok-next_tag.field-0 t
    c.in-Some.is c.new-pull.ensures.start c.new-pull.ensures.same c.in_ok-next_tag.ensures.reads in
    let stands = given_next l c.new-pull.result c.next_tag.new.self c.in_ok-next_tag.field-0 t c.in-Some.is
    c.new-pull.ensures.start c.in_ok-next_tag.ensures.stands in
    let read = c.in_err-value.ensures.reads given (ap (λ w. w.error) stands) (ap (λ w. w.given) stands) in
    let same_limits = c.in_err-value.ensures.frame.onward.same_limits ∙ ap (λ w. w.limits) stands in
    let still = ap (λ w. w.octets) same_limits in
    let inside = c.read.new.pull.within in
    let within : c.read.new.pull.state.taken ≤ l.octets = omega arith in
    element_err g.R.Source.remaining l T g.T.DerText.value c.in_err-value.field-0.0 _
    (g.R.Source.remaining c.args.src.now) c.read.new.pull.src.now _ c.from_residual-in_err-value.result (search rules)
    (search rules) within
    (element_answers l T 0 t.0 t.1 _ c.next_tag.new.self.state.taken c.read.new.pull.state.taken _ _ _ heard
    (hears_as _ _ _ _ _ _ _ (read_as l T _ _ t stands) read))

pub returns-clause-reads : goal.returns-clause-reads
returns-clause-reads g c =
    let l = c.args.limits in
    let T = g.T.Element.type_term in
    let t : Tag × Bool = c.in-Some.field-0 in
    let given : Given = record { at = 0; tag = t.0; constructed = t.1 } in
    let heard = element_next l c.args.src.now c.new-pull.result c.next_tag.new.self c.in_ok-next_tag.field-0 t
    c.in-Some.is c.new-pull.ensures.start c.new-pull.ensures.same c.in_ok-next_tag.ensures.reads in
    let stands = given_next l c.new-pull.result c.next_tag.new.self c.in_ok-next_tag.field-0 t c.in-Some.is
    c.new-pull.ensures.start c.in_ok-next_tag.ensures.stands in
    let read = c.in_ok-value.ensures.reads given (ap (λ w. w.error) stands) (ap (λ w. w.given) stands) in (
      read.0,
      read.1,
      element_said g.R.Source.remaining l T read.0
          (g.R.Source.remaining c.args.src.now) c.read.new.pull.src.now _ c.read.new.pull.state.taken c.at-taken.result
          (search rules) (c.at-taken.ensures.value ∙ ap place c.in_ok-value.ensures.stands)
          (element_answers l T 0 t.0 t.1 _ c.next_tag.new.self.state.taken c.read.new.pull.state.taken _ _ _ heard
          (hears_as _ _ _ _ _ _ _ (read_as l T _ _ t stands) read.2)),
    )

pub returns-clause-short : goal.returns-clause-short
returns-clause-short g c =
    let l = c.args.limits in
    let T = g.T.Element.type_term in
    let t : Tag × Bool = c.in-Some.field-0 in
    let given : Given = record { at = 0; tag = t.0; constructed = t.1 } in
    let heard = element_next l c.args.src.now c.new-pull.result c.next_tag.new.self c.in_ok-next_tag.field-0 t
    c.in-Some.is c.new-pull.ensures.start c.new-pull.ensures.same c.in_ok-next_tag.ensures.reads in
    let stands = given_next l c.new-pull.result c.next_tag.new.self c.in_ok-next_tag.field-0 t c.in-Some.is
    c.new-pull.ensures.start c.in_ok-next_tag.ensures.stands in
    let read = c.in_ok-value.ensures.reads given (ap (λ w. w.error) stands) (ap (λ w. w.given) stands) in
    let same_limits = c.in_ok-value.ensures.frame.onward.same_limits ∙ ap (λ w. w.limits) stands in
    let fits = (subst (λ o. IfSome o (λ t. IsGiven t.0 c.next_tag.new.self.state))
    c.in-Some.is c.in_ok-next_tag.ensures.fits).octets_fit in
    let limits = ap (λ w. w.limits.octets) stands in
    let few : l.octets ≤ 2147483647 = omega arith in
    let inside = c.read.new.pull.within in
    let still = ap (λ w. w.octets) same_limits in
    let within : c.read.new.pull.state.taken ≤ l.octets = omega arith in
    text_short l T 0 t.0 t.1 read.0 _ c.next_tag.new.self.state.taken c.read.new.pull.state.taken _ _ _ few within
    read.1 heard
    (hears_as _ _ _ _ _ _ _ (read_as l T _ _ t stands) read.2)
