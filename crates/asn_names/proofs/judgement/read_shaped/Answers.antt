use Rattle.std.proofs.Common.{rules, ◌∙◌, Bool, Err, Ok, ap}
use Rattle.tlv_core.specs.Identifier.{Tag}
use Rattle.ber_pull.specs.Hears.{next_at}
use Rattle.ber_pull.specs.Standing.{place}
use Rattle.ber_pull.specs.declared.state.Given.{Given}
use Rattle.ber_pull.proofs.Hearing.{hears_as, hears_said}
use Rattle.asn_elements.proofs.Firsts.{element_answers, element_next, element_said, first_next, given_next, never_ends, next_stops, read_as}
use Rattle.pkix_shapes.specs.Terms.{term_of}
use Rattle.asn_names.proofs.Judging.{element_stops}
use Rattle.asn_names.proofs.judgement.read_shaped.Goals as goal

pub returns-in_err-next_tag-clause-reads : goal.returns-in_err-next_tag-clause-reads
returns-in_err-next_tag-clause-reads g c =
    let l = c.args.limits in
    let T = term_of c.args.shape.now in
    let e = c.in_err-next_tag.field-0.0 in
    element_stops g.R.Source.remaining l T e c.next_tag.new.self.state.taken
    (g.R.Source.remaining c.args.src.now) c.next_tag.new.self.src.now _ _ _ c.from_residual.result (search rules)
    (search rules)
    (next_stops l T e c.next_tag.new.self.state.taken _ _
    (first_next l c.args.src.now c.new-pull.result c.next_tag.new.self (Err e)
    c.new-pull.ensures.start c.new-pull.ensures.same c.in_err-next_tag.ensures.reads))

pub unreachable-requires : goal.unreachable-requires
unreachable-requires g c =
    let heard = first_next c.args.limits c.args.src.now c.new-pull.result c.next_tag.new.self
    (Ok c.in_ok-next_tag.field-0) c.new-pull.ensures.start c.new-pull.ensures.same c.in_ok-next_tag.ensures.reads in
    never_ends c.args.limits 0 c.next_tag.new.self.state.taken _ _
    (hears_said _ _ _ _ _ _ _ (ap (next_at 0) c.in_default.is) heard)

pub returns-in_err-append_shaped-clause-reads : goal.returns-in_err-append_shaped-clause-reads
returns-in_err-append_shaped-clause-reads g c =
    let l = c.args.limits in
    let T = term_of c.args.shape.now in
    let t : Tag × Bool = c.in-Some.field-0 in
    let e = c.in_err-append_shaped.field-0.0 in
    let given : Given = record { at = 0; tag = t.0; constructed = t.1 } in
    let heard = element_next l c.args.src.now c.new-pull.result c.next_tag.new.self c.in_ok-next_tag.field-0 t
    c.in-Some.is c.new-pull.ensures.start c.new-pull.ensures.same c.in_ok-next_tag.ensures.reads in
    let stands = given_next l c.new-pull.result c.next_tag.new.self c.in_ok-next_tag.field-0 t c.in-Some.is
    c.new-pull.ensures.start c.in_ok-next_tag.ensures.stands in
    let read = c.in_err-append_shaped.ensures.reads given (ap (λ w. w.error) stands) (ap (λ w. w.given) stands) in
    element_stops g.R.Source.remaining l T e c.append_shaped.new.pull.state.taken
    (g.R.Source.remaining c.args.src.now) c.append_shaped.new.pull.src.now _ _ _
    c.from_residual-in_err-append_shaped.result (search rules) (search rules)
    (element_answers l T 0 t.0 t.1 _ c.next_tag.new.self.state.taken c.append_shaped.new.pull.state.taken _ _ _ heard
    (hears_as _ _ _ _ _ _ _ (read_as l T _ _ t stands) read))

pub returns-clause-reads : goal.returns-clause-reads
returns-clause-reads g c =
    let l = c.args.limits in
    let T = term_of c.args.shape.now in
    let t : Tag × Bool = c.in-Some.field-0 in
    let given : Given = record { at = 0; tag = t.0; constructed = t.1 } in
    let heard = element_next l c.args.src.now c.new-pull.result c.next_tag.new.self c.in_ok-next_tag.field-0 t
    c.in-Some.is c.new-pull.ensures.start c.new-pull.ensures.same c.in_ok-next_tag.ensures.reads in
    let stands = given_next l c.new-pull.result c.next_tag.new.self c.in_ok-next_tag.field-0 t c.in-Some.is
    c.new-pull.ensures.start c.in_ok-next_tag.ensures.stands in
    let read = c.in_ok-append_shaped.ensures.reads given (ap (λ w. w.error) stands) (ap (λ w. w.given) stands) in (
      read.0,
      read.1,
      element_said g.R.Source.remaining l T read.0
          (g.R.Source.remaining c.args.src.now) c.append_shaped.new.pull.src.now _ c.append_shaped.new.pull.state.taken
          c.at-taken.result
          (search rules) (c.at-taken.ensures.value ∙ ap place c.in_ok-append_shaped.ensures.stands)
          (element_answers l T 0 t.0 t.1 _ c.next_tag.new.self.state.taken c.append_shaped.new.pull.state.taken _ _ _
          heard (hears_as _ _ _ _ _ _ _ (read_as l T _ _ t stands) read.2)),
    )
