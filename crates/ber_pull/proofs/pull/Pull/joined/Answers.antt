use Rattle.std.proofs.Common.{rules, arith, ◌≡◌, ◌<◌, ◌≤◌, length, [], Ok, Err, refl, sym, ap, subst, ◌∙◌}
use Rattle.ber_pull.specs.Standing.{enclosing, used}
use Rattle.ber_pull.proofs.Hearing.{hears_as, hears_error_as, no_false, no_true}
use Rattle.std.proofs.Common.{◌∷◌}
use Rattle.ber_pull.specs.Calls.{read_segments}
use Rattle.ber_pull.specs.Segments.{Stacked, Steps, read_one_segment, read_rest, segment_number}
use Rattle.ber_pull.specs.Standing.{enclosing_of}
use Rattle.ber_pull.proofs.Joining.{joined_error}
use Rattle.ber_pull.proofs.Strings.{around_left, segments_error, segments_into, segments_one, stack_start, walk_done, walk_on}
use Rattle.ber_pull.proofs.Walk.{continues_as, level}
use Rattle.ber_pull.proofs.pull.Pull.joined.Goals as goal

pub returns-in-Err-clause-reads : goal.returns-in-Err-clause-reads
returns-in-Err-clause-reads g c = λ given is.
    let same : c.unwrap-given.result ≡ given = cc in
    hears_error_as _ _ _ _ _ _ _ c.failure.ensures
    (hears_as _ _ _ _ _ _ _
    (ap (λ b.
    read_one_segment (segment_number b) c.args.self.now.state.limits
    (enclosing c.args.self.now.state) [] c.unwrap-given.result.at) c.new-joined.ensures.kind
    ∙ ap (λ w.
    read_one_segment (segment_number c.args.is_bits) c.args.self.now.state.limits
    (enclosing c.args.self.now.state) [] w.at) same
    ∙ segments_one (segment_number c.args.is_bits) c.args.self.now.state given
    (ap (λ w. w.constructed) (sym same) ∙ no_true _ c.if-not-given.true))
    (c.in-Err.ensures.reads [] c.new-joined.ensures.none))

pub returns-in-Ok-clause-reads : goal.returns-in-Ok-clause-reads
returns-in-Ok-clause-reads g c = λ given is.
    let same : c.unwrap-given.result ≡ given = cc in
    let came = c.in-Ok.ensures.reads [] c.new-joined.ensures.none in (
      came.0,
      came.1,
      hears_as _ _ _ _ _ _ _
          (ap (λ b.
          read_one_segment (segment_number b) c.args.self.now.state.limits
          (enclosing c.args.self.now.state) [] c.unwrap-given.result.at) c.new-joined.ensures.kind
          ∙ ap (λ w.
          read_one_segment (segment_number c.args.is_bits) c.args.self.now.state.limits
          (enclosing c.args.self.now.state) [] w.at) same
          ∙ segments_one (segment_number c.args.is_bits) c.args.self.now.state given
          (ap (λ w. w.constructed) (sym same) ∙ no_true _ c.if-not-given.true)) came.2,
    )

pub returns-in_err-enter-clause-reads : goal.returns-in_err-enter-clause-reads
returns-in_err-enter-clause-reads g c = λ given is.
    let same : c.unwrap-given.result ≡ given = cc in
    joined_error c.args.self.now c.enter.new.self _ c.from_residual.result c.in_err-enter.field-0.0
    (search rules)
    (segments_error (segment_number c.args.is_bits) c.args.self.now.state given _ _ _ _ _
    (ap (λ w. w.constructed) (sym same) ∙ no_false _ c.if-not-given.false)
    (c.in_err-enter.ensures.reads given c.requires.live is))

pub loop-alloc-init : goal.loop-alloc-init
loop-alloc-init g c = record {
  same_source = search rules;
  fine = search rules;
  stands = search rules;
  forward = search rules;
  kind = search rules;
  reads = λ given is.
      let same : c.unwrap-given.result ≡ given = cc in
      let form = c.in_ok-enter.ensures.stands.0 in
      let stands = c.in_ok-enter.ensures.stands.1 in
      let limits : c.enter.new.self.state.limits ≡ c.args.self.now.state.limits = ap (λ w. w.limits) stands in
      let some : 0 < c.enter.new.self.state.taken = omega (arith, c.in_ok-enter.ensures.advances) in
      let levels = level c.args.self.now.state.limits.depth c.args.self.now.state.limits.octets
      (enclosing c.enter.new.self.state)
      ∷ [] in
      record {
        levels = levels;
        segments = [];
        stacked =
            subst (λ w.
            Stacked c.enter.new.self.state c.args.self.now.state.containers
            (level c.args.self.now.state.limits.depth c.args.self.now.state.limits.octets (enclosing_of w) ∷ []) w)
            (ap (λ w. w.containers) (sym stands))
            (stack_start c.enter.new.self.state
            (used c.enter.new.self.state.taken c.args.self.now.state)
            form c.args.self.now.state.limits c.args.self.now.state.containers limits some);
        joins = c.new-joined.ensures.none;
        reads =
            continues_as _ _ _ _ _ _ _ _ refl
            (ap (λ w. read_rest (segment_number c.args.is_bits) w levels []) (sym limits))
            (segments_into (segment_number c.args.is_bits) c.args.self.now.state given _ _ _ _ _
            (ap (λ w. w.constructed) (sym same) ∙ no_false _ c.if-not-given.false)
            (c.in_ok-enter.ensures.reads given c.requires.live is));
      };
}

pub loop-alloc-preserved : goal.loop-alloc-preserved
loop-alloc-preserved g c = record {
  same_source = search rules;
  fine = search rules;
  stands = search rules;
  forward = search rules;
  kind = search rules;
  reads = λ given is.
      let more : length c.args.self.now.state.containers < length c.loop-alloc.self.state.containers =
      let z = c.loop-alloc-test.true in omega arith in
      walk_on c.args.self.now c.loop-alloc.self c.step.new.self c.args.self.now.state.containers
      (segment_number c.args.is_bits) _ c.loop-alloc.joined c.step.new.joined (Ok tt)
      (c.loop-alloc.invariant.reads given is) more
      (λ v vs segments stacked joins.
      subst (λ b.
      Steps c.loop-alloc.self c.step.new.self c.args.self.now.state.containers (segment_number b)
      (read_rest (segment_number b) c.loop-alloc.self.state.limits (v ∷ vs) segments) c.step.new.joined (Ok tt))
      c.loop-alloc.invariant.kind
      (c.in_ok-step.ensures.reads c.args.self.now.state.containers v vs segments stacked joins));
}

pub returns-in_err-step-clause-reads : goal.returns-in_err-step-clause-reads
returns-in_err-step-clause-reads g c = λ given is.
    let more : length c.args.self.now.state.containers < length c.loop-alloc.self.state.containers =
    let z = c.loop-alloc-test.true in omega arith in
    joined_error c.args.self.now c.step.new.self _ c.from_residual-in_err-step.result c.in_err-step.field-0.0
    (search rules)
    (walk_on c.args.self.now c.loop-alloc.self c.step.new.self c.args.self.now.state.containers
    (segment_number c.args.is_bits)
    (read_segments (segment_number c.args.is_bits) c.args.self.now.state given) c.loop-alloc.joined c.step.new.joined
    (Err c.in_err-step.field-0.0) (c.loop-alloc.invariant.reads given is) more
    (λ v vs segments stacked joins.
    subst (λ b.
    Steps c.loop-alloc.self c.step.new.self c.args.self.now.state.containers (segment_number b)
    (read_rest (segment_number b) c.loop-alloc.self.state.limits (v ∷ vs) segments) c.step.new.joined
    (Err c.in_err-step.field-0.0)) c.loop-alloc.invariant.kind
    (c.in_err-step.ensures.reads c.args.self.now.state.containers v vs segments stacked joins)))

pub returns-clause-reads : goal.returns-clause-reads
returns-clause-reads g c = λ given is.
    let on = c.loop-alloc.invariant.reads given is in
    let over : length c.loop-alloc.self.state.containers ≤ length c.args.self.now.state.containers =
    let z = c.loop-alloc-test.false in omega arith in (
      on.segments,
      on.joins,
      on.reads.rest _ _ _
          (walk_done c.loop-alloc.self.state c.args.self.now.state.containers
          (segment_number c.args.is_bits) on.levels on.segments c.loop-alloc.self.state.containers _ _ on.stacked over),
    )

pub returns-clause-stands : goal.returns-clause-stands
returns-clause-stands g c =
    let on = c.loop-alloc.invariant.reads c.unwrap-given.result (sym c.given.ensures.value ∙ c.unwrap-given.ensures) in
    let over : length c.loop-alloc.self.state.containers ≤ length c.args.self.now.state.containers =
    let z = c.loop-alloc-test.false in omega arith in
    c.loop-alloc.invariant.stands
    ∙ ap (λ w. record (used c.loop-alloc.self.state.taken c.args.self.now.state) { containers = w })
    (around_left c.loop-alloc.self.state c.args.self.now.state.containers on.levels c.loop-alloc.self.state.containers
    on.stacked over)
