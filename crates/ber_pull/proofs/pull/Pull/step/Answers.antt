use Rattle.std.proofs.Common.{rules, arith, ◌≡◌, ◌<◌, ◌≤◌, Some, None, refl, sym, ap, subst, ◌∙◌}
use Rattle.tlv_core.specs.declared.fault.ReadError.TheVariants as errors
use Rattle.x690.specs.Points.{fault}
use Rattle.ber_pull.specs.Standing.{after_next, closing, enclosing, enclosing_of, giving, moved, opening, used}
use Rattle.ber_pull.proofs.Hearing.{hears_as, hears_error_as, hears_said, hears_stop}
use Rattle.std.proofs.Common.{◌∷◌, suc}
use Rattle.tlv_core.specs.declared.reason.Reason.TheVariants.{WrongTag}
use Rattle.x690.specs.ReadHeaders.{ElementStands}
use Rattle.ber_pull.specs.Segments.{Stacked, read_rest, segment_number}
use Rattle.ber_pull.proofs.Joining.{step_error}
use Rattle.ber_pull.proofs.Walk.{continues_as, continues_at, into_here, level, next_fails, next_here, one_here, stack_ended, stack_into, stack_one, to_go, walk_ended, walk_error, walk_into, walk_into_error, walk_one, walk_one_error, walk_wrong}
use Rattle.ber_pull.proofs.pull.Pull.step.Goals as goal

pub returns-in_err-next-clause-reads : goal.returns-in_err-next-clause-reads
returns-in_err-next-clause-reads g c = λ around v vs s stacked joins.
    let go = to_go c.args.self.now.state around v vs c.args.self.now.state.containers c.args.self.now.within
    c.requires.depth stacked in
    step_error c.args.self.now c.next_tag.new.self around
    (segment_number c.args.joined.now.is_bits) _ c.args.joined.now c.from_residual.result c.in_err-next.field-0.0
    (search rules)
    (hears_as _ _ _ _ _ _ _
    (ap (λ w. read_rest (segment_number c.args.joined.now.is_bits) c.args.self.now.state.limits (w ∷ vs) s) (sym go.is))
    (walk_error _ _ _ _ _ _ _ _ _ _ _ _
    (next_fails c.args.self.now.state around v vs _ _ _ _ c.requires.unused stacked
    (c.in_err-next.ensures.reads c.requires.live))))

pub returns-in_default-clause-reads : goal.returns-in_default-clause-reads
returns-in_default-clause-reads g c = λ around v vs s stacked joins.
    let go = to_go c.args.self.now.state around v vs c.args.self.now.state.containers c.args.self.now.within
    c.requires.depth stacked in
    let here = next_here c.args.self.now.state around v vs c.in_ok-next.field-0 None _ _ _ c.requires.unused stacked
    c.in_default.is
    (c.in_ok-next.ensures.reads c.requires.live) in
    let next = c.in_ok-next.ensures.stands c.requires.unused
    ∙ ap (λ w. after_next c.next_tag.new.self.state.taken w c.args.self.now.state) c.in_default.is in
    let stands = c.close.ensures ∙ ap closing next in
    record {
      levels = vs;
      segments = s;
      stacked =
          subst (λ w. Stacked c.close.new.self around vs w) (ap (λ w. w.containers) (sym stands))
          (stack_ended c.args.self.now.state c.close.new.self around v vs c.args.self.now.state.containers
          (ap (λ w. w.limits) stands)
          (let e : c.close.new.self.taken ≡ c.next_tag.new.self.state.taken = ap (λ w. w.taken) c.close.ensures in
          let f : c.args.self.now.state.taken ≤ c.next_tag.new.self.state.taken = c.in_ok-next.ensures.frame.onward.forward in
          omega arith) stacked);
      joins = joins;
      reads =
          continues_as _ _ _ _ _ _ _ _
          (ap (λ w. read_rest (segment_number c.args.joined.now.is_bits) c.args.self.now.state.limits (w ∷ vs) s)
          (sym go.is))
          (ap (λ w. read_rest (segment_number c.args.joined.now.is_bits) w vs s) (ap (λ w. w.limits) (sym stands)))
          (continues_at _ _ _ _ _ _ _ _ (ap (λ w. w.taken) c.close.ensures) refl
          (walk_ended _ _ _ _ _ _ _ _ _ _ _ _ here));
    }

pub returns-then-not-is_segment_tag-clause-reads : goal.returns-then-not-is_segment_tag-clause-reads
returns-then-not-is_segment_tag-clause-reads g c = λ around v vs s stacked joins.
    let go = to_go c.args.self.now.state around v vs c.args.self.now.state.containers c.args.self.now.within
    c.requires.depth stacked in
    hears_stop _ (fault c.args.self.now.state.taken WrongTag) _ _ _ _ _ _ _
    (c.stop.ensures.is ∙ ap (λ p. errors.Fault (fault p WrongTag)) c.taken-start.ensures.value)
    (ap (λ s. s.taken) c.stop.ensures.stands) (ap g.R.Source.remaining c.stop.ensures.same)
    (hears_as _ _ _ _ _ _ _
    (ap (λ w. read_rest (segment_number c.args.joined.now.is_bits) c.args.self.now.state.limits (w ∷ vs) s) (sym go.is))
    (walk_wrong (segment_number c.args.joined.now.is_bits) _ _ _ _ _ _ _ c.in-Some.next.0 c.in-Some.next.1 _ _ _ _
    (next_here c.args.self.now.state around v vs c.in_ok-next.field-0
    (Some c.in-Some.next) _ _ _ c.requires.unused stacked c.in-Some.is (c.in_ok-next.ensures.reads c.requires.live))
    (sym c.is_segment_tag.ensures ∙ c.if-not-is_segment_tag.true)))

pub returns-in_err-enter-clause-reads : goal.returns-in_err-enter-clause-reads
returns-in_err-enter-clause-reads g c = λ around v vs s stacked joins.
    let go = to_go c.args.self.now.state around v vs c.args.self.now.state.containers c.args.self.now.within
    c.requires.depth stacked in
    step_error c.args.self.now c.enter.new.self around
    (segment_number c.args.joined.now.is_bits)
    _ c.args.joined.now c.from_residual-in_err-enter.result c.in_err-enter.field-0.0
    (search rules)
    (hears_as _ _ _ _ _ _ _
    (ap (λ w. read_rest (segment_number c.args.joined.now.is_bits) c.args.self.now.state.limits (w ∷ vs) s) (sym go.is))
    (walk_into_error (segment_number c.args.joined.now.is_bits) _ _ _ _ _ _ _ _ c.in-Some.next.0 _ _ _ _ _ _
    (hears_said _ _ _ _ _ _ _ (ap (ElementStands c.args.self.now.state.taken c.in-Some.next.0) c.if-constructed.true)
    (next_here c.args.self.now.state around v vs c.in_ok-next.field-0
    (Some c.in-Some.next) _ _ _ c.requires.unused stacked c.in-Some.is (c.in_ok-next.ensures.reads c.requires.live)))
    (sym c.is_segment_tag.ensures ∙ c.if-not-is_segment_tag.false)
    (hears_as _ _ _ _ _ _ _
    (into_here c.args.self.now.state c.next_tag.new.self.state around v vs c.next_tag.new.self.state.taken
    c.in-Some.next.0 c.in-Some.next.1 stacked
    (c.in_ok-next.ensures.stands c.requires.unused
    ∙ ap (λ w. after_next c.next_tag.new.self.state.taken w c.args.self.now.state) c.in-Some.is) c.if-constructed.true)
    (c.in_err-enter.ensures.reads
    (record { at = c.args.self.now.state.taken; tag = c.in-Some.next.0; constructed = c.in-Some.next.1 })
    c.in_ok-next.ensures.frame.keeps.0
    (ap (λ w. w.given)
    (c.in_ok-next.ensures.stands c.requires.unused
    ∙ ap (λ w. after_next c.next_tag.new.self.state.taken w c.args.self.now.state) c.in-Some.is))))))

pub returns-then-constructed-clause-reads : goal.returns-then-constructed-clause-reads
returns-then-constructed-clause-reads g c = λ around v vs s stacked joins.
    let go = to_go c.args.self.now.state around v vs c.args.self.now.state.containers c.args.self.now.within
    c.requires.depth stacked in
    let form = c.in_ok-enter.ensures.stands.0 in
    let given = giving c.args.self.now.state.taken c.in-Some.next.0 c.in-Some.next.1
    (moved c.next_tag.new.self.state.taken c.args.self.now.state) in
    let stands = c.in_ok-enter.ensures.stands.1
    ∙ ap (λ w. opening form (used c.enter.new.self.state.taken w))
    (c.in_ok-next.ensures.stands c.requires.unused
    ∙ ap (λ w. after_next c.next_tag.new.self.state.taken w c.args.self.now.state) c.in-Some.is) in
    let limits : c.enter.new.self.state.limits ≡ c.args.self.now.state.limits = ap (λ w. w.limits) stands in
    let further : c.args.self.now.state.taken < c.enter.new.self.state.taken =
    omega (arith, c.in_ok-next.ensures.frame.onward.forward, c.in_ok-enter.ensures.advances) in
    let levels = level go.deep c.args.self.now.state.limits.octets (enclosing c.enter.new.self.state)
    ∷ level (suc go.deep) go.fuel v.around ∷ vs in
    record {
      levels = levels;
      segments = s;
      stacked =
          subst (λ w.
          Stacked c.enter.new.self.state around
          (level go.deep c.args.self.now.state.limits.octets (enclosing_of w) ∷ level (suc go.deep) go.fuel v.around
          ∷ vs) w)
          (ap (λ w. w.containers) (sym stands))
          (stack_into c.args.self.now.state
          (used c.enter.new.self.state.taken given) c.enter.new.self.state form around go.deep go.fuel v.around vs
          c.args.self.now.state.containers limits further
          (subst
          (λ w. Stacked c.args.self.now.state around (w ∷ vs) c.args.self.now.state.containers) go.is stacked));
      joins = joins;
      reads =
          continues_as _ _ _ _ _ _ _ _
          (ap (λ w. read_rest (segment_number c.args.joined.now.is_bits) c.args.self.now.state.limits (w ∷ vs) s)
          (sym go.is))
          (ap (λ w. read_rest (segment_number c.args.joined.now.is_bits) w levels s) (sym limits))
          (walk_into (segment_number c.args.joined.now.is_bits) _ _ _ _ _ _ _ _ c.in-Some.next.0 _ _ _ _ _ _
          (hears_said _ _ _ _ _ _ _
          (ap (ElementStands c.args.self.now.state.taken c.in-Some.next.0) c.if-constructed.true)
          (next_here c.args.self.now.state around v vs c.in_ok-next.field-0
          (Some c.in-Some.next) _ _ _ c.requires.unused stacked c.in-Some.is
          (c.in_ok-next.ensures.reads c.requires.live)))
          (sym c.is_segment_tag.ensures ∙ c.if-not-is_segment_tag.false)
          (hears_as _ _ _ _ _ _ _
          (into_here c.args.self.now.state c.next_tag.new.self.state around v vs c.next_tag.new.self.state.taken
          c.in-Some.next.0 c.in-Some.next.1 stacked
          (c.in_ok-next.ensures.stands c.requires.unused
          ∙ ap (λ w. after_next c.next_tag.new.self.state.taken w c.args.self.now.state) c.in-Some.is)
          c.if-constructed.true)
          (c.in_ok-enter.ensures.reads
          (record { at = c.args.self.now.state.taken; tag = c.in-Some.next.0; constructed = c.in-Some.next.1 })
          c.in_ok-next.ensures.frame.keeps.0
          (ap (λ w. w.given)
          (c.in_ok-next.ensures.stands c.requires.unused
          ∙ ap (λ w. after_next c.next_tag.new.self.state.taken w c.args.self.now.state) c.in-Some.is)))));
    }

pub returns-in-Err-clause-reads : goal.returns-in-Err-clause-reads
returns-in-Err-clause-reads g c = λ around v vs s stacked joins.
    let go = to_go c.args.self.now.state around v vs c.args.self.now.state.containers c.args.self.now.within
    c.requires.depth stacked in
    hears_error_as _ _ _ _ _ _ _ c.failure.ensures
    (hears_as _ _ _ _ _ _ _
    (ap (λ w. read_rest (segment_number c.args.joined.now.is_bits) c.args.self.now.state.limits (w ∷ vs) s) (sym go.is))
    (walk_one_error (segment_number c.args.joined.now.is_bits) _ _ _ _ _ _ _ _ c.in-Some.next.0 _ _ _ _ _ _
    (hears_said _ _ _ _ _ _ _ (ap (ElementStands c.args.self.now.state.taken c.in-Some.next.0) c.if-constructed.false)
    (next_here c.args.self.now.state around v vs c.in_ok-next.field-0
    (Some c.in-Some.next) _ _ _ c.requires.unused stacked c.in-Some.is (c.in_ok-next.ensures.reads c.requires.live)))
    (sym c.is_segment_tag.ensures ∙ c.if-not-is_segment_tag.false)
    (hears_as _ _ _ _ _ _ _
    (one_here c.args.self.now.state c.next_tag.new.self.state around v vs
    (segment_number c.args.joined.now.is_bits)
    c.taken-start.result c.next_tag.new.self.state.taken c.in-Some.next.0 c.in-Some.next.1 s stacked
    (c.in_ok-next.ensures.stands c.requires.unused
    ∙ ap (λ w. after_next c.next_tag.new.self.state.taken w c.args.self.now.state) c.in-Some.is)
    c.taken-start.ensures.value)
    (c.in-Err.ensures.reads s joins))))

pub returns-in-Ok-clause-reads : goal.returns-in-Ok-clause-reads
returns-in-Ok-clause-reads g c = λ around v vs s stacked joins.
    let go = to_go c.args.self.now.state around v vs c.args.self.now.state.containers c.args.self.now.within
    c.requires.depth stacked in
    let came = c.in-Ok.ensures.reads s joins in
    let stands = c.in-Ok.ensures.stands
    ∙ ap (used c.segment.new.self.state.taken)
    (c.in_ok-next.ensures.stands c.requires.unused
    ∙ ap (λ w. after_next c.next_tag.new.self.state.taken w c.args.self.now.state) c.in-Some.is) in
    let limits : c.segment.new.self.state.limits ≡ c.args.self.now.state.limits = ap (λ w. w.limits) stands in
    let further : c.args.self.now.state.taken < c.segment.new.self.state.taken = omega
    (arith, c.in_ok-next.ensures.advances c.requires.unused (search rules), c.in-Ok.ensures.frame.onward.forward) in
    let levels = level (suc go.deep) go.fuel v.around ∷ vs in
    record {
      levels = levels;
      segments = came.0;
      stacked =
          subst (λ w. Stacked c.segment.new.self.state around levels w) (ap (λ w. w.containers) (sym stands))
          (stack_one c.args.self.now.state c.segment.new.self.state around
          (suc go.deep) go.fuel v.around vs c.args.self.now.state.containers limits further
          (subst (λ w. Stacked c.args.self.now.state around (w ∷ vs) c.args.self.now.state.containers) go.is stacked));
      joins = came.1;
      reads =
          continues_as _ _ _ _ _ _ _ _
          (ap (λ w. read_rest (segment_number c.args.joined.now.is_bits) c.args.self.now.state.limits (w ∷ vs) s)
          (sym go.is))
          (ap (λ w. read_rest (segment_number c.args.joined.now.is_bits) w levels came.0) (sym limits))
          (walk_one (segment_number c.args.joined.now.is_bits) _ _ _ _ _ _ _ _ c.in-Some.next.0 _ _ _ _ _ _
          (hears_said _ _ _ _ _ _ _
          (ap (ElementStands c.args.self.now.state.taken c.in-Some.next.0) c.if-constructed.false)
          (next_here c.args.self.now.state around v vs c.in_ok-next.field-0
          (Some c.in-Some.next) _ _ _ c.requires.unused stacked c.in-Some.is
          (c.in_ok-next.ensures.reads c.requires.live)))
          (sym c.is_segment_tag.ensures ∙ c.if-not-is_segment_tag.false)
          (hears_as _ _ _ _ _ _ _
          (one_here c.args.self.now.state c.next_tag.new.self.state around v vs
          (segment_number c.args.joined.now.is_bits)
          c.taken-start.result c.next_tag.new.self.state.taken c.in-Some.next.0 c.in-Some.next.1 s stacked
          (c.in_ok-next.ensures.stands c.requires.unused
          ∙ ap (λ w. after_next c.next_tag.new.self.state.taken w c.args.self.now.state) c.in-Some.is)
          c.taken-start.ensures.value) came.2));
    }
