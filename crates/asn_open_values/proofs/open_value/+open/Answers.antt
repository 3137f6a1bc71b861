use Rattle.std.proofs.Common.{rules, arith, ◌≡◌, ◌∙◌, ◌++◌, ◌∷◌, [], IfSome, None, ap, append-nil, false, length, refl, subst, sym, true}
use Rattle.tlv_core.specs.declared.fault.ReadError.TheVariants as errors
use Rattle.tlv_core.specs.declared.reason.Reason.TheVariants.{LeftOut}
use Rattle.x690.specs.DerTexts.{der, texts_of}
use Rattle.x690.specs.OpenValues.{open_form}
use Rattle.x690.specs.Points.{fault}
use Rattle.x690.specs.ReadContents.{read_open}
use Rattle.x690.specs.Reading.{Done}
use Rattle.x690.specs.Reads.{Said}
use Rattle.x690.specs.Values.{values_of}
use Rattle.x690_laws.proofs.LengthsOfTexts.{der_row}
use Rattle.ber_pull.specs.Hears.{next_at}
use Rattle.ber_pull.specs.Standing.{after_next, IsGiven, place}
use Rattle.ber_pull.specs.View.{Answers}
use Rattle.ber_pull.specs.declared.state.Given.{Given}
use Rattle.ber_pull.proofs.Hearing.{hears_at, hears_done, hears_error, hears_said, hears_then, hears_then_memory}
use Rattle.asn_open_values.specs.OpenTexts.{container, form_of, read_given_container, read_given_contents, read_given_open_members}
use Rattle.asn_elements.specs.Reading.{ended}
use Rattle.asn_elements.specs.Framing.{framed}
use Rattle.asn_elements.proofs.ReaderAnswers.{none_by, place_given, some_given}
use Rattle.asn_elements.proofs.MemberReadings.{all_used, inside_ends, inside_error, inside_memory, inside_never, inside_start, left}
use Rattle.asn_open_values.proofs.OpenMembers.{Members, behind_header, behind_more, member_more, member_stops, room_now, stand_first}
use Rattle.asn_open_values.proofs.OpenReadings.{leaf_by, octets_by, open_by, open_refused, plain_by, sequence_by, set_by, text_err, text_memory, text_put, texts_err}
use Rattle.asn_open_values.proofs.open_value.+open.Goals as goal

pub append_set-returns-in_err-append_members-clause-reads : goal.append_set-returns-in_err-append_members-clause-reads
append_set-returns-in_err-append_members-clause-reads g t c = λ deep given fine is bound.
    let s = c.args.pull.now.state in
    text_err c.args.pull.now c.append_members.new.pull
    (read_given_container deep true c.args.tag s given) _ _ c.from_residual.result c.in_err-append_members.field-0.0
    (search rules)
    (hears_error (read_given_open_members deep s given)
    (λ e. Done (container true c.args.tag (values_of e.all))) _ _ _ _ _
    (c.in_err-append_members.ensures.reads deep given fine is bound))

pub append_set-returns-in_err-contents-clause-reads : goal.append_set-returns-in_err-contents-clause-reads
append_set-returns-in_err-contents-clause-reads g t c = λ deep given fine is bound.
    let s = c.args.pull.now.state in
    let read = c.in_ok-append_members.ensures.reads deep given fine is bound in
    let stop = c.in_err-contents.ensures.stops in
    text_err c.args.pull.now c.arranged.new.pull
    (read_given_container deep true c.args.tag s given)
    _ _ c.from_residual-in_err-contents.result c.in_err-contents.field-0.0
    (search rules)
    (hears_error (read_given_open_members deep s given)
    (λ e. Done (container true c.args.tag (values_of e.all))) c.in_err-contents.field-0.0 _ _ _ _
    (hears_then_memory _ (ended read.0 read.1) c.in_err-contents.field-0.0 _ _ _ _ _ _ stop.0 (ap (λ z. z.taken) stop.2)
    (ap g.R.Source.remaining stop.1) read.3))

pub append_set-returns-clause-reads : goal.append_set-returns-clause-reads
append_set-returns-clause-reads g t c = λ deep given fine is bound.
    let s = c.args.pull.now.state in
    let p = read_given_container deep true c.args.tag s given in
    let read = c.in_ok-append_members.ensures.reads deep given fine is bound in
    let v = container true c.args.tag (values_of read.0) in
    let contents = c.in_ok-contents.contents.items in
    let are = stand_first read.0 _ _ _ (search rules) read.2 in
    let der_is : der v ≡ framed c.args.tag contents =
    c.in_ok-contents.ensures.is read.0 c.args.tag (are.0, c.deref.ensures.value ∙ are.1) in
    text_put c.args.pull.now c.arranged.new.pull c.append_element.new.pull p v _ _ _
    (subst (λ z. Answers c.args.pull.now z p (Said v)) (sym c.in_ok-contents.ensures.still)
    (hears_then (read_given_open_members deep s given)
    (λ e. Done (container true c.args.tag (values_of e.all))) (ended read.0 read.1) _ _ _ _ _ _ _ read.3
    (hears_done _ _ _)))
    (rw der_is (search rules))
    c.append_element.ensures.still
    c.append_element.ensures.stops

pub append_sequence-returns-then-is_err-clause-reads : goal.append_sequence-returns-then-is_err-clause-reads
append_sequence-returns-then-is_err-clause-reads g t c = λ deep given fine is bound.
    let first = c.no_memory.ensures.first fine in
    text_memory c.args.pull.now c.no_memory.new.self
    (read_given_container deep false c.args.tag c.args.pull.now.state given) [] [] _ c.no_memory.result
    refl first.0 c.no_memory.ensures.same (search rules)

pub append_sequence-returns-in_err-append_members-clause-reads : goal.append_sequence-returns-in_err-append_members-clause-reads
append_sequence-returns-in_err-append_members-clause-reads g t c = λ deep given fine is bound.
    let s = c.args.pull.now.state in
    text_err c.args.pull.now c.append_members.new.pull
    (read_given_container deep false c.args.tag s given) _ _ c.from_residual.result c.in_err-append_members.field-0.0
    (search rules)
    (hears_error (read_given_open_members deep s given)
    (λ e. Done (container false c.args.tag (values_of e.all))) _ _ _ _ _
    (c.in_err-append_members.ensures.reads deep given fine is bound))

pub append_sequence-returns-clause-reads : goal.append_sequence-returns-clause-reads
append_sequence-returns-clause-reads g t c = λ deep given fine is bound.
    let s = c.args.pull.now.state in
    let read = c.in_ok-append_members.ensures.reads deep given fine is bound in
    let stop = c.no_memory-in-Err.ensures.first (search rules) in
    text_err c.args.pull.now c.no_memory-in-Err.new.self
    (read_given_container deep false c.args.tag s given) [] [] _ c.no_memory-in-Err.result refl
    (hears_error (read_given_open_members deep s given)
    (λ e. Done (container false c.args.tag (values_of e.all))) c.no_memory-in-Err.result _ _ _ _
    (hears_then_memory _ (ended read.0 read.1) c.no_memory-in-Err.result _ _ _ _ _ _ stop.0 (ap (λ z. z.taken) stop.1)
    (ap g.R.Source.remaining c.no_memory-in-Err.ensures.same) read.3))

pub append_sequence-returns-in-Ok-clause-reads : goal.append_sequence-returns-in-Ok-clause-reads
append_sequence-returns-in-Ok-clause-reads g t c = λ deep given fine is bound.
    let s = c.args.pull.now.state in
    let read = c.in_ok-append_members.ensures.reads deep given fine is bound in
    let before = c.args.text.now.items in (
      container false c.args.tag (values_of read.0),
      c.in-Ok.ensures before (0 ∷ 0 ∷ []) (texts_of read.0) (search rules) refl
          (behind_header read.0 false before (0 ∷ 0 ∷ []) _ _ _ (search rules) read.2)
          ∙ ap (λ z. before ++ z) (sym (der_row c.args.tag read.0)),
      hears_then (read_given_open_members deep s given)
          (λ e. Done (container false c.args.tag (values_of e.all))) (ended read.0 read.1) _ _ _ _ _ _ _ read.3
          (hears_done _ _ _),
    )

pub append_open-returns-in-Refused-clause-reads : goal.append_open-returns-in-Refused-clause-reads
append_open-returns-in-Refused-clause-reads g t c = λ deep given fine is bound.
    let next = c.requires.next fine in
    let tied = subst (λ o. IfSome o (λ g. (g.tag ≡ c.args.tag) × (g.constructed ≡ c.args.constructed))) is next.1 in
    let first = c.refuse.ensures.first (search rules) in
    open_refused c.args.pull.now c.args.pull.now c.refuse.new.self
    (refl, refl) next.0.depth_fits deep given fine is bound c.refuse.result
    (ap open_form tied.0 ∙ (sym c.open_form-form.ensures ∙ ap form_of c.in-Refused.is))
    (first.0
    ∙ ap (λ p. errors.Fault (fault p LeftOut)) (c.at-at.ensures.value ∙ place_given c.args.pull.now.state given is))
    first.1 c.refuse.ensures.same

pub append_open-returns-in-SetOf-clause-reads : goal.append_open-returns-in-SetOf-clause-reads
append_open-returns-in-SetOf-clause-reads g t c = λ deep given fine is bound.
    let next = c.requires.next fine in
    let tied = subst (λ o. IfSome o (λ g. (g.tag ≡ c.args.tag) × (g.constructed ≡ c.args.constructed))) is next.1 in
    open_by c.args.pull.now c.args.pull.now c.append_set.new.pull
    (refl, refl) next.0.depth_fits deep given fine is bound
    (λ d s. read_given_container d true c.args.tag s given) _ _ _
    (λ d.
    set_by d c.args.pull.now.state given c.args.tag (sym tied.0)
    (sym c.open_form-form.ensures ∙ ap form_of c.in-SetOf.is))
    (λ d fine' is' bound'. c.append_set.ensures.reads d given fine' is' bound')

pub append_open-returns-in-Sequence-clause-reads : goal.append_open-returns-in-Sequence-clause-reads
append_open-returns-in-Sequence-clause-reads g t c = λ deep given fine is bound.
    let next = c.requires.next fine in
    let tied = subst (λ o. IfSome o (λ g. (g.tag ≡ c.args.tag) × (g.constructed ≡ c.args.constructed))) is next.1 in
    open_by c.args.pull.now c.args.pull.now c.append_sequence.new.pull
    (refl, refl) next.0.depth_fits deep given fine is bound
    (λ d s. read_given_container d false c.args.tag s given) _ _ _
    (λ d.
    sequence_by d c.args.pull.now.state given c.args.tag (sym tied.0)
    (sym c.open_form-form.ensures ∙ ap form_of c.in-Sequence.is))
    (λ d fine' is' bound'. c.append_sequence.ensures.reads d given fine' is' bound')

pub append_open-returns-in-Plain-clause-reads : goal.append_open-returns-in-Plain-clause-reads
append_open-returns-in-Plain-clause-reads g t c = λ deep given fine is bound.
    let next = c.requires.next fine in
    let tied = subst (λ o. IfSome o (λ g. (g.tag ≡ c.args.tag) × (g.constructed ≡ c.args.constructed))) is next.1 in
    open_by c.args.pull.now c.args.pull.now c.append_sequence-in-Plain.new.pull
    (refl, refl) next.0.depth_fits deep given fine is bound
    (λ d s. read_given_container d false c.args.tag s given) _ _ _
    (λ d.
    plain_by d c.args.pull.now.state given c.args.tag (sym tied.0) (tied.1 ∙ c.if-constructed.true)
    (sym c.open_form-form.ensures ∙ ap form_of c.in-Plain.is))
    (λ d fine' is' bound'. c.append_sequence-in-Plain.ensures.reads d given fine' is' bound')

pub append_open-returns-in-Plain-2-clause-reads : goal.append_open-returns-in-Plain-2-clause-reads
append_open-returns-in-Plain-2-clause-reads g t c = λ deep given fine is bound.
    let next = c.requires.next fine in
    let tied = subst (λ o. IfSome o (λ g. (g.tag ≡ c.args.tag) × (g.constructed ≡ c.args.constructed))) is next.1 in
    open_by c.args.pull.now c.args.pull.now c.append_leaf-in-Plain-2.new.pull
    (refl, refl) next.0.depth_fits deep given fine is bound
    (λ d s. read_given_contents c.open_form-form.result c.args.tag s given) _ _ _
    (λ d.
    octets_by d c.args.pull.now.state given c.args.tag c.open_form-form.result (sym tied.0)
    (tied.1 ∙ c.if-constructed.false) c.in-Plain-2.is c.open_form-form.ensures)
    (λ d fine' is' bound'. c.append_leaf-in-Plain-2.ensures.reads given fine' is')

pub append_open-returns-in-Leaf-clause-reads : goal.append_open-returns-in-Leaf-clause-reads
append_open-returns-in-Leaf-clause-reads g t c = λ deep given fine is bound.
    let next = c.requires.next fine in
    let tied = subst (λ o. IfSome o (λ g. (g.tag ≡ c.args.tag) × (g.constructed ≡ c.args.constructed))) is next.1 in
    open_by c.args.pull.now c.args.pull.now c.append_leaf.new.pull
    (refl, refl) next.0.depth_fits deep given fine is bound
    (λ d s. read_given_contents c.open_form-form.result c.args.tag s given) _ _ _
    (λ d.
    leaf_by d c.args.pull.now.state given c.args.tag _ c.open_form-form.result
    (sym tied.0) c.in-Leaf.is c.open_form-form.ensures)
    (λ d fine' is' bound'. c.append_leaf.ensures.reads given fine' is')

pub append_members-returns-in_err-enter-clause-reads : goal.append_members-returns-in_err-enter-clause-reads
append_members-returns-in_err-enter-clause-reads g t c = λ deep given fine is bound.
    let s = c.args.pull.now.state in
    texts_err c.args.pull.now c.enter.new.self
    (read_given_open_members deep s given) _ _ _ _ c.from_residual.result c.in_err-enter.field-0.0 (search rules)
    (inside_never
    (λ inside. read_open deep s.limits inside) c.args.pull.now c.enter.new.self given c.in_err-enter.field-0.0
    (c.in_err-enter.ensures.reads given fine is))

pub append_members-loop-tag-init : goal.append_members-loop-tag-init
append_members-loop-tag-init g t c =
    let fine : c.args.pull.now.state.error ≡ None =
    none_by c.args.pull.now.state.error (λ e h. let r = (c.in_ok-enter.ensures.repeats e h).0 in cc) in
    let stands = c.in_ok-enter.ensures.stands in (
      search rules,
      search rules,
      search rules,
      search rules,
      search rules,
      fine,
      (let e = ap (λ z. length z.containers) stands.1 in omega (arith, e)),
      λ deep given is bound.
          let limits = c.args.pull.now.state.limits in (
            [],
            (sym (append-nil _), λ _. c.requires.none),
            inside_start (λ inside. read_open deep limits inside) c.args.pull.now c.enter.new.self given stands.0 is
                (search rules) c.in_ok-enter.ensures.frame.same_source stands.1 c.in_ok-enter.ensures.advances
                (c.in_ok-enter.ensures.reads given fine is),
          ),
    )

pub append_members-returns-in_err-tag-clause-reads : goal.append_members-returns-in_err-tag-clause-reads
append_members-returns-in_err-tag-clause-reads g t c = λ deep given fine is bound.
    let i = (c.loop-tag.invariant.7 deep given is bound).2 in
    texts_err c.args.pull.now c.next_tag.new.self
    (read_given_open_members deep c.args.pull.now.state given)
    _ _ _ _ c.from_residual-in_err-tag.result c.in_err-tag.field-0.0
    (search rules)
    (inside_error _ _ c.args.pull.now c.loop-tag.pull _ i c.next_tag.new.self c.in_err-tag.field-0.0
    (c.in_err-tag.ensures.reads i.fine))

pub append_members-returns-in_err-append_open-clause-reads : goal.append_members-returns-in_err-append_open-clause-reads
append_members-returns-in_err-append_open-clause-reads g t c = λ deep given fine is bound.
    let before = c.loop-tag.invariant.7 deep given is bound in
    let i = before.2 in
    let next = hears_said _ _ _ _ _ _ _ (ap (next_at (place c.loop-tag.pull.state)) c.in-Some.is)
    (c.in_ok-tag.ensures.reads i.fine) in
    let stands = c.in_ok-tag.ensures.stands i.none_given
    ∙ ap (λ z. after_next c.next_tag.new.self.state.taken z c.loop-tag.pull.state) c.in-Some.is in
    let new-given : Given =
    record { at = c.loop-tag.pull.state.taken; tag = c.in-Some.tag; constructed = c.in-Some.constructed } in
    let room = room_now deep c.args.pull.now c.loop-tag.pull c.next_tag.new.self c.append_open.new.pull given
    before.0 i c.in-Some.tag c.in-Some.constructed next stands bound in
    let read = c.in_err-append_open.ensures.reads deep new-given (search rules) (ap (λ z. z.given) stands) room in
    texts_err c.args.pull.now c.append_open.new.pull
    (read_given_open_members deep c.args.pull.now.state given)
    _ _ _ _ c.from_residual-in_err-append_open.result c.in_err-append_open.field-0.0
    (search rules)
    (member_stops deep c.args.pull.now c.loop-tag.pull c.next_tag.new.self c.append_open.new.pull given before.0 i
    c.in-Some.tag c.in-Some.constructed next stands c.in_err-append_open.field-0.0 read)

pub append_members-returns-in_err-keep-clause-reads : goal.append_members-returns-in_err-keep-clause-reads
append_members-returns-in_err-keep-clause-reads g t c = λ deep given fine is bound.
    let before = c.loop-tag.invariant.7 deep given is bound in
    let i = before.2 in
    let next = hears_said _ _ _ _ _ _ _ (ap (next_at (place c.loop-tag.pull.state)) c.in-Some.is)
    (c.in_ok-tag.ensures.reads i.fine) in
    let stands = c.in_ok-tag.ensures.stands i.none_given
    ∙ ap (λ z. after_next c.next_tag.new.self.state.taken z c.loop-tag.pull.state) c.in-Some.is in
    let fits =
    subst (λ o. IfSome o (λ t. IsGiven t.0 c.next_tag.new.self.state)) c.in-Some.is c.in_ok-tag.ensures.fits in
    let new-given : Given =
    record { at = c.loop-tag.pull.state.taken; tag = c.in-Some.tag; constructed = c.in-Some.constructed } in
    let room = room_now deep c.args.pull.now c.loop-tag.pull c.next_tag.new.self c.append_open.new.pull given
    before.0 i c.in-Some.tag c.in-Some.constructed next stands bound in
    let read = c.in_ok-append_open.ensures.reads deep new-given (search rules) (ap (λ z. z.given) stands) room in
    let more = member_more deep c.args.pull.now c.loop-tag.pull c.next_tag.new.self c.append_open.new.pull given
    before.0 i c.in-Some.tag c.in-Some.constructed next stands read.0 read.2 c.in_ok-tag.ensures.frame.same_source
    c.in_ok-append_open.ensures.frame.same_source c.in_ok-append_open.ensures.stands
    (search rules) c.in_ok-append_open.ensures.frame.onward.forward (search rules) fits in
    let stop = c.in_err-keep.ensures.stops in
    texts_err c.args.pull.now c.keep.new.pull
    (read_given_open_members deep c.args.pull.now.state given)
    _ _ _ _ c.from_residual-in_err-keep.result c.in_err-keep.field-0.0
    (search rules)
    (inside_memory _ _ c.args.pull.now c.append_open.new.pull
    (before.0 ++ read.0 ∷ []) more c.keep.new.pull c.in_err-keep.field-0.0 stop.0 (ap (λ z. z.taken) stop.2)
    (ap g.R.Source.remaining stop.1))

pub append_members-loop-tag-preserved-in-Continue-branch-5 : goal.append_members-loop-tag-preserved-in-Continue-branch-5
append_members-loop-tag-preserved-in-Continue-branch-5 g t c = (
  search rules,
  search rules,
  search rules,
  search rules,
  search rules,
  c.loop-tag.invariant.5,
  (let stands = c.in_ok-tag.ensures.stands c.loop-tag.invariant.2
      ∙ ap (λ z. after_next c.next_tag.new.self.state.taken z c.loop-tag.pull.state) c.in-Some.is in
      omega (
        arith,
        c.loop-tag.invariant.6,
        ap (λ z. length z.containers) stands,
        ap (λ z. length z.containers) c.in_ok-append_open.ensures.stands,
        ap (λ z. length z.state.containers) c.in_ok-keep.ensures.still,
      )),
  λ deep given is bound.
      let before = c.loop-tag.invariant.7 deep given is bound in
      let i = before.2 in
      let next = hears_said _ _ _ _ _ _ _ (ap (next_at (place c.loop-tag.pull.state)) c.in-Some.is)
      (c.in_ok-tag.ensures.reads i.fine) in
      let stands = c.in_ok-tag.ensures.stands i.none_given
      ∙ ap (λ z. after_next c.next_tag.new.self.state.taken z c.loop-tag.pull.state) c.in-Some.is in
      let fits =
      subst (λ o. IfSome o (λ t. IsGiven t.0 c.next_tag.new.self.state)) c.in-Some.is c.in_ok-tag.ensures.fits in
      let new-given : Given =
      record { at = c.loop-tag.pull.state.taken; tag = c.in-Some.tag; constructed = c.in-Some.constructed } in
      let room = room_now deep c.args.pull.now c.loop-tag.pull c.next_tag.new.self c.append_open.new.pull given
      before.0 i c.in-Some.tag c.in-Some.constructed next stands bound in
      let read = c.in_ok-append_open.ensures.reads deep new-given (search rules) (ap (λ z. z.given) stands) room in
      let more = member_more deep c.args.pull.now c.loop-tag.pull c.next_tag.new.self c.append_open.new.pull given
      before.0 i c.in-Some.tag c.in-Some.constructed next stands read.0 read.2 c.in_ok-tag.ensures.frame.same_source
      c.in_ok-append_open.ensures.frame.same_source c.in_ok-append_open.ensures.stands
      (search rules) c.in_ok-append_open.ensures.frame.onward.forward (search rules) fits in (
        before.0 ++ read.0 ∷ [],
        behind_more _ _ _ _ _ _ before.0 read.0 c.len-start.result before.1 read.1 (λ _. c.in_ok-keep.ensures.kept)
            (search rules),
        subst (λ z. Members deep c.args.pull.now given z (before.0 ++ read.0 ∷ []))
            (sym c.in_ok-keep.ensures.still) more,
      ),
)

pub append_members-loop-tag-preserved : goal.append_members-loop-tag-preserved
append_members-loop-tag-preserved g t c = (
  search rules,
  search rules,
  search rules,
  search rules,
  search rules,
  c.loop-tag.invariant.5,
  (let stands = c.in_ok-tag.ensures.stands c.loop-tag.invariant.2
      ∙ ap (λ z. after_next c.next_tag.new.self.state.taken z c.loop-tag.pull.state) c.in-Some.is in
      omega (
        arith,
        c.loop-tag.invariant.6,
        ap (λ z. length z.containers) stands,
        ap (λ z. length z.containers) c.in_ok-append_open.ensures.stands,
      )),
  λ deep given is bound.
      let before = c.loop-tag.invariant.7 deep given is bound in
      let i = before.2 in
      let next = hears_said _ _ _ _ _ _ _ (ap (next_at (place c.loop-tag.pull.state)) c.in-Some.is)
      (c.in_ok-tag.ensures.reads i.fine) in
      let stands = c.in_ok-tag.ensures.stands i.none_given
      ∙ ap (λ z. after_next c.next_tag.new.self.state.taken z c.loop-tag.pull.state) c.in-Some.is in
      let fits =
      subst (λ o. IfSome o (λ t. IsGiven t.0 c.next_tag.new.self.state)) c.in-Some.is c.in_ok-tag.ensures.fits in
      let new-given : Given =
      record { at = c.loop-tag.pull.state.taken; tag = c.in-Some.tag; constructed = c.in-Some.constructed } in
      let room = room_now deep c.args.pull.now c.loop-tag.pull c.next_tag.new.self c.append_open.new.pull given
      before.0 i c.in-Some.tag c.in-Some.constructed next stands bound in
      let read = c.in_ok-append_open.ensures.reads deep new-given (search rules) (ap (λ z. z.given) stands) room in
      let more = member_more deep c.args.pull.now c.loop-tag.pull c.next_tag.new.self c.append_open.new.pull given
      before.0 i c.in-Some.tag c.in-Some.constructed next stands read.0 read.2 c.in_ok-tag.ensures.frame.same_source
      c.in_ok-append_open.ensures.frame.same_source c.in_ok-append_open.ensures.stands
      (search rules) c.in_ok-append_open.ensures.frame.onward.forward (search rules) fits in (
        before.0 ++ read.0 ∷ [],
        behind_more _ _ _ _ _ _ before.0 read.0 c.len-start.result before.1 read.1
            (λ yes. let no = sym yes ∙ c.if-is_set.false in cc) (search rules),
        more,
      ),
)

pub append_members-returns-clause-reads : goal.append_members-returns-clause-reads
append_members-returns-clause-reads g t c = λ deep given fine is bound.
    let before = c.loop-tag.invariant.7 deep given is bound in
    let i = before.2 in
    let next = hears_said _ _ _ _ _ _ _ (ap (next_at (place c.loop-tag.pull.state)) c.in_default.is)
    (c.in_ok-tag.ensures.reads i.fine) in
    let end = c.in_ok-tag.ensures.ends i.none_given c.in_default.is in
    let done = c.in_ok-leave.ensures.ended (search rules) end in (
      before.0,
      place c.loop-tag.pull.state,
      before.1,
      hears_at _ _ _ _ _ _ _ _ (ap (λ z. z.taken) done.2) (ap g.R.Source.remaining done.1)
          (inside_ends _ _ c.args.pull.now c.loop-tag.pull before.0 i c.next_tag.new.self
          (place c.loop-tag.pull.state) next),
    )

pub append_members-returns-clause-texts : goal.append_members-returns-clause-texts
append_members-returns-clause-texts g t c =
    let s = c.args.pull.now.state in
    let given = some_given s.given (c.requires.given c.loop-tag.invariant.5) in
    let before = c.loop-tag.invariant.7 s.limits.depth given.0 given.1 (omega arith) in
    (before.0, before.1)

pub append_members-returns-clause-stands : goal.append_members-returns-clause-stands
append_members-returns-clause-stands g t c =
    let s = c.args.pull.now.state in
    let given = some_given s.given (c.requires.given c.loop-tag.invariant.5) in
    let i = (c.loop-tag.invariant.7 s.limits.depth given.0 given.1 (omega arith)).2 in
    let stands = c.in_ok-tag.ensures.stands i.none_given
    ∙ ap (λ z. after_next c.next_tag.new.self.state.taken z c.loop-tag.pull.state) c.in_default.is in
    let done = (c.in_ok-leave.ensures.ended (search rules) (c.in_ok-tag.ensures.ends i.none_given c.in_default.is)).2 in
    all_used c.leave.new.self.state s
    (ap (λ z. z.limits) done ∙ (ap (λ z. z.limits) stands ∙ i.limits))
    (ap (λ z. z.given) done ∙ (ap (λ z. z.given) stands ∙ i.none_given))
    (left c.loop-tag.pull.state c.next_tag.new.self.state c.leave.new.self.state i.container s.containers
    c.next_tag.new.self.state.taken i.containers stands done)
    (ap (λ z. z.error) done ∙ (ap (λ z. z.error) stands ∙ (i.fine ∙ sym c.loop-tag.invariant.5)))
