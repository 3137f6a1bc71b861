use Rattle.std.proofs.Common.{rules, arith, ◌≡◌, ◌∙◌, ◌++◌, ◌∷◌, [], IfSome, None, ap, append-nil, append_assoc, false, length, length-append, refl, subst, sym, true, Bool}
use Rattle.tlv_core.specs.Identifier.{Tag}
use Rattle.tlv_core.specs.declared.fault.ReadError.TheVariants as errors
use Rattle.tlv_core.specs.declared.reason.Reason.TheVariants.{EmptySet, Missing, WrongTag}
use Rattle.x690.specs.DerTexts.{der, texts_of}
use Rattle.x690.specs.Points.{fault}
use Rattle.x690.specs.ReadTypes.{read_fields, read_type}
use Rattle.x690.specs.Reading.{Done}
use Rattle.x690.specs.Reads.{Said}
use Rattle.x690.specs.TypeTerms.{ChoiceType, Default, LeafType, SequenceOfType, SequenceType, SetOfType, fits_tag}
use Rattle.x690.specs.Values.{Sequence, SetOf, values_of}
use Rattle.x690_laws.proofs.LengthsOfTexts.{der_row}
use Rattle.ber_pull.specs.Hears.{heard_error, next_at}
use Rattle.ber_pull.specs.Standing.{after_next, enclosing, IsGiven, place}
use Rattle.ber_pull.specs.View.{Answers}
use Rattle.ber_pull.specs.declared.state.Given.{Given}
use Rattle.ber_pull.proofs.Hearing.{hears_as, hears_at, hears_done, hears_error, hears_memory, hears_off, hears_on, hears_said, hears_stop, hears_then, hears_then_memory}
use Rattle.ber_pull.proofs.Nexts.{place_taken}
use Rattle.asn_elements.specs.Framing.{framed}
use Rattle.asn_elements.specs.Reading.{ended, read_given, read_given_members}
use Rattle.asn_elements.proofs.MemberReadings.{inside_ends, inside_error, inside_memory, inside_never, inside_start}
use Rattle.asn_elements.proofs.ReaderAnswers.{fine_still, given_still, none_by, place_given, refused_by, unmoved_answers}
use Rattle.asn_elements.proofs.TypeReadings.{list_of, list_type_is, set_of, set_type_is}
use Rattle.asn_fields.specs.FieldReadings.{but_default, with_field}
use Rattle.asn_fields.specs.Fields.{next_of}
use Rattle.asn_fields.proofs.FieldAnswers.{with_error}
use Rattle.asn_fields.proofs.FieldReadings.{begins, begins_error, take_missing, take_then, take_wrong}
use Rattle.asn_fields.proofs.Insides.{field_given, stands_some, used_within}
use Rattle.asn_open_values.specs.OpenTexts.{StandBehind}
use Rattle.asn_open_values.proofs.OpenMembers.{behind_header, behind_more, stand_first}
use Rattle.asn_open_values.proofs.OpenReadings.{text_err, text_put}
use Rattle.pkix_shapes.specs.Terms.{fields_of, kind_of, leaf_tag, tag_of, term_of}
use Rattle.asn_names.proofs.ShapeDefaults.{default_is, default_stops, default_then_fields}
use Rattle.asn_names.proofs.ShapeFields.{due_stops, due_then_fields, end_of_fields, fields_as, optional_absent, optional_there, sequence_type_is, taken_as}
use Rattle.asn_names.proofs.ShapeMembers.{AreRead, member_more, member_stops, one_more}
use Rattle.asn_names.proofs.ShapeReadings.{as_first, as_second, enough, list_behind_tag, ok_so, set_behind_tag, text_through, too_few, unmoved_still}
use Rattle.asn_names.proofs.shaped.+shaped.Goals as goal

pub append_members-returns-in_err-enter-clause-reads : goal.append_members-returns-in_err-enter-clause-reads
append_members-returns-in_err-enter-clause-reads g t c = λ given fine is.
    let s = c.args.pull.now.state in
    let type = term_of c.args.members.shape.now in
    with_error _ _ c.from_residual.result c.in_err-enter.field-0.0 (search rules)
    (inside_never (read_type s.limits type []) c.args.pull.now c.enter.new.self given c.in_err-enter.field-0.0
    (c.in_err-enter.ensures.reads given fine is))

pub append_members-loop-next-init : goal.append_members-loop-next-init
append_members-loop-next-init g t c =
    let fine : c.args.pull.now.state.error ≡ None =
    none_by c.args.pull.now.state.error (λ e h. let r = (c.in_ok-enter.ensures.repeats e h).0 in cc) in
    let stands = c.in_ok-enter.ensures.stands in
    let type = term_of c.args.members.shape.now in (
      search rules,
      search rules,
      search rules,
      search rules,
      search rules,
      search rules,
      fine,
      λ given is.
          let limits = c.args.pull.now.state.limits in (
            [],
            (sym (append-nil _), λ _. c.requires.none),
            omega arith,
            inside_start (read_type limits type []) c.args.pull.now c.enter.new.self given stands.0 is
                (search rules) c.in_ok-enter.ensures.frame.same_source stands.1 c.in_ok-enter.ensures.advances
                (c.in_ok-enter.ensures.reads given fine is),
          ),
    )

pub append_members-returns-in_err-_next-clause-reads : goal.append_members-returns-in_err-_next-clause-reads
append_members-returns-in_err-_next-clause-reads g t c = λ given fine is.
    let i = (c.loop-next.invariant.7 given is).3 in
    with_error _ _ c.from_residual-in_err-_next.result c.in_err-_next.field-0.0 (search rules)
    (inside_error _ _ c.args.pull.now c.loop-next.pull _ i c.next_tag.new.self c.in_err-_next.field-0.0
    (c.in_err-_next.ensures.reads i.fine))

pub append_members-returns-in_err-append_shaped-clause-reads : goal.append_members-returns-in_err-append_shaped-clause-reads
append_members-returns-in_err-append_shaped-clause-reads g t c = λ given fine is.
    let before = c.loop-next.invariant.7 given is in
    let i = before.3 in
    let type = term_of c.args.members.shape.now in
    let next = hears_said _ _ _ _ _ _ _ (ap (next_at (place c.loop-next.pull.state)) c.in-Some.is)
    (c.in_ok-_next.ensures.reads i.fine) in
    let stands = c.in_ok-_next.ensures.stands i.none_given
    ∙ ap (λ z. after_next c.next_tag.new.self.state.taken z c.loop-next.pull.state) c.in-Some.is in
    let new-given : Given =
    record { at = c.loop-next.pull.state.taken; tag = c.in-Some._next.0; constructed = c.in-Some._next.1 } in
    let read = c.in_err-append_shaped.ensures.reads new-given (search rules) (ap (λ z. z.given) stands) in
    with_error _ _ c.from_residual-in_err-append_shaped.result c.in_err-append_shaped.field-0.0 (search rules)
    (member_stops type c.args.pull.now c.loop-next.pull c.next_tag.new.self c.append_shaped.new.pull given before.0 i
    c.in-Some._next.0 c.in-Some._next.1 next stands c.in_err-append_shaped.field-0.0 read)

pub append_members-returns-in_err-keep-clause-reads : goal.append_members-returns-in_err-keep-clause-reads
append_members-returns-in_err-keep-clause-reads g t c = λ given fine is.
    let before = c.loop-next.invariant.7 given is in
    let i = before.3 in
    let type = term_of c.args.members.shape.now in
    let next = hears_said _ _ _ _ _ _ _ (ap (next_at (place c.loop-next.pull.state)) c.in-Some.is)
    (c.in_ok-_next.ensures.reads i.fine) in
    let stands = c.in_ok-_next.ensures.stands i.none_given
    ∙ ap (λ z. after_next c.next_tag.new.self.state.taken z c.loop-next.pull.state) c.in-Some.is in
    let fits =
    subst (λ o. IfSome o (λ t. IsGiven t.0 c.next_tag.new.self.state)) c.in-Some.is c.in_ok-_next.ensures.fits in
    let new-given : Given =
    record { at = c.loop-next.pull.state.taken; tag = c.in-Some._next.0; constructed = c.in-Some._next.1 } in
    let read = c.in_ok-append_shaped.ensures.reads new-given (search rules) (ap (λ z. z.given) stands) in
    let more = member_more type c.args.pull.now c.loop-next.pull c.next_tag.new.self c.append_shaped.new.pull given
    before.0 i c.in-Some._next.0 c.in-Some._next.1 next stands read.0 read.2 c.in_ok-_next.ensures.frame.same_source
    c.in_ok-append_shaped.ensures.frame.same_source c.in_ok-append_shaped.ensures.stands
    (search rules) c.in_ok-append_shaped.ensures.frame.onward.forward (search rules) fits in
    let stop = c.in_err-keep.ensures.stops in
    with_error _ _ c.from_residual-in_err-keep.result c.in_err-keep.field-0.0 (search rules)
    (inside_memory _ _ c.args.pull.now c.append_shaped.new.pull
    (before.0 ++ read.0 ∷ []) more c.keep.new.pull c.in_err-keep.field-0.0 stop.0 (ap (λ z. z.taken) stop.2)
    (ap g.R.Source.remaining stop.1))

pub append_members-loop-next-preserved-in-Continue-branch-5 : goal.append_members-loop-next-preserved-in-Continue-branch-5
append_members-loop-next-preserved-in-Continue-branch-5 g t c = (
  search rules,
  search rules,
  search rules,
  search rules,
  search rules,
  search rules,
  c.loop-next.invariant.6,
  λ given is.
      let before = c.loop-next.invariant.7 given is in
      let i = before.3 in
      let type = term_of c.args.members.shape.now in
      let next = hears_said _ _ _ _ _ _ _ (ap (next_at (place c.loop-next.pull.state)) c.in-Some.is)
      (c.in_ok-_next.ensures.reads i.fine) in
      let stands = c.in_ok-_next.ensures.stands i.none_given
      ∙ ap (λ z. after_next c.next_tag.new.self.state.taken z c.loop-next.pull.state) c.in-Some.is in
      let fits =
      subst (λ o. IfSome o (λ t. IsGiven t.0 c.next_tag.new.self.state)) c.in-Some.is c.in_ok-_next.ensures.fits in
      let new-given : Given =
      record { at = c.loop-next.pull.state.taken; tag = c.in-Some._next.0; constructed = c.in-Some._next.1 } in
      let read = c.in_ok-append_shaped.ensures.reads new-given (search rules) (ap (λ z. z.given) stands) in
      let more = member_more type c.args.pull.now c.loop-next.pull c.next_tag.new.self c.append_shaped.new.pull given
      before.0 i c.in-Some._next.0 c.in-Some._next.1 next stands read.0 read.2 c.in_ok-_next.ensures.frame.same_source
      c.in_ok-append_shaped.ensures.frame.same_source c.in_ok-append_shaped.ensures.stands
      (search rules) c.in_ok-append_shaped.ensures.frame.onward.forward (search rules) fits in (
        before.0 ++ read.0 ∷ [],
        behind_more _ _ _ _ _ _ before.0 read.0 c.len-start.result before.1 read.1 (λ _. c.in_ok-keep.ensures.kept)
            (search rules),
        one_more before.0 read.0 _ _ _ before.2 c.saturating_sub-missing.ensures,
        subst (λ z. AreRead type c.args.pull.now given z (before.0 ++ read.0 ∷ []))
            (sym c.in_ok-keep.ensures.still) more,
      ),
)

pub append_members-loop-next-preserved : goal.append_members-loop-next-preserved
append_members-loop-next-preserved g t c = (
  search rules,
  search rules,
  search rules,
  search rules,
  search rules,
  search rules,
  c.loop-next.invariant.6,
  λ given is.
      let before = c.loop-next.invariant.7 given is in
      let i = before.3 in
      let type = term_of c.args.members.shape.now in
      let next = hears_said _ _ _ _ _ _ _ (ap (next_at (place c.loop-next.pull.state)) c.in-Some.is)
      (c.in_ok-_next.ensures.reads i.fine) in
      let stands = c.in_ok-_next.ensures.stands i.none_given
      ∙ ap (λ z. after_next c.next_tag.new.self.state.taken z c.loop-next.pull.state) c.in-Some.is in
      let fits =
      subst (λ o. IfSome o (λ t. IsGiven t.0 c.next_tag.new.self.state)) c.in-Some.is c.in_ok-_next.ensures.fits in
      let new-given : Given =
      record { at = c.loop-next.pull.state.taken; tag = c.in-Some._next.0; constructed = c.in-Some._next.1 } in
      let read = c.in_ok-append_shaped.ensures.reads new-given (search rules) (ap (λ z. z.given) stands) in
      let more = member_more type c.args.pull.now c.loop-next.pull c.next_tag.new.self c.append_shaped.new.pull given
      before.0 i c.in-Some._next.0 c.in-Some._next.1 next stands read.0 read.2 c.in_ok-_next.ensures.frame.same_source
      c.in_ok-append_shaped.ensures.frame.same_source c.in_ok-append_shaped.ensures.stands
      (search rules) c.in_ok-append_shaped.ensures.frame.onward.forward (search rules) fits in (
        before.0 ++ read.0 ∷ [],
        behind_more _ _ _ _ _ _ before.0 read.0 c.len-start.result before.1 read.1
            (λ yes. let no = sym yes ∙ c.if-members.false in cc) (search rules),
        one_more before.0 read.0 _ _ _ before.2 c.saturating_sub-missing.ensures,
        more,
      ),
)

pub append_members-returns-clause-reads : goal.append_members-returns-clause-reads
append_members-returns-clause-reads g t c = λ given fine is.
    let before = c.loop-next.invariant.7 given is in
    let i = before.3 in
    let type = term_of c.args.members.shape.now in
    let one = read_type c.args.pull.now.state.limits type [] in
    let next = hears_said _ _ _ _ _ _ _ (ap (next_at (place c.loop-next.pull.state)) c.in_default.is)
    (c.in_ok-_next.ensures.reads i.fine) in
    let end = c.in_ok-_next.ensures.ends i.none_given c.in_default.is in
    let done = c.in_ok-leave.ensures.ended (search rules) end in
    let at : c.loop-next.at ≡ place c.loop-next.pull.state =
    c.loop-next.invariant.0 ∙ sym (place_taken c.loop-next.pull.state i.none_given) in (
      before.0,
      before.1,
      before.2,
      hears_at _ _ _ _ _ _ _ _ (ap (λ z. z.taken) done.2) (ap g.R.Source.remaining done.1)
          (hears_said _ _ _ _ _ _ _ (ap (ended before.0) (sym at))
          (inside_ends one _ c.args.pull.now c.loop-next.pull before.0 i c.next_tag.new.self
          (place c.loop-next.pull.state) next)),
    )

pub append_list-returns-in_err-tag-clause-reads : goal.append_list-returns-in_err-tag-clause-reads
append_list-returns-in_err-tag-clause-reads g t c = λ given fine is.
    let own = tag_of c.args.own in
    let least = c.args.members.least in
    let type = term_of c.args.members.shape.now in
    let s = c.args.pull.now.state in
    text_err c.args.pull.now c.expect_own.new.pull (read_given (SequenceOfType own least type) s given) _ _
    c.from_residual.result c.in_err-tag.field-0.0 (search rules)
    (hears_as _ _ _ _ _ _ _ (list_type_is own least type s given) (c.in_err-tag.ensures.stops given fine is _))

pub append_list-returns-in_err-leave_room-clause-reads : goal.append_list-returns-in_err-leave_room-clause-reads
append_list-returns-in_err-leave_room-clause-reads g t c = λ given fine is.
    let own = tag_of c.args.own in
    let least = c.args.members.least in
    let type = term_of c.args.members.shape.now in
    let old = c.args.pull.now in
    let stop = c.in_err-leave_room.ensures.stops in
    let e = c.in_err-leave_room.field-0.0 in
    text_err old c.leave_room.new.pull (read_given (SequenceOfType own least type) old.state given) _ _
    c.from_residual-in_err-leave_room.result e (search rules)
    (list_behind_tag old c.expect_own.new.pull c.leave_room.new.pull own least type given (heard_error e)
    c.in_ok-tag.ensures.same (c.in_ok-tag.ensures.is given fine is)
    (hears_memory _ e _ _ _ _ stop.0 (ap (λ z. z.taken) stop.2) (ap g.R.Source.remaining stop.1)))

pub append_list-returns-in_err-end-clause-reads : goal.append_list-returns-in_err-end-clause-reads
append_list-returns-in_err-end-clause-reads g t c = λ given fine is.
    let own = tag_of c.args.own in
    let least = c.args.members.least in
    let type = term_of c.args.members.shape.now in
    let old = c.args.pull.now in
    let mid = c.leave_room.new.pull in
    let still = unmoved_still old c.expect_own.new.pull mid c.in_ok-tag.ensures.same c.in_ok-leave_room.ensures.still in
    let e = c.in_err-end.field-0.0 in
    text_err old c.append_members.new.pull (read_given (SequenceOfType own least type) old.state given) _ _
    c.from_residual-in_err-end.result e (search rules)
    (list_behind_tag old mid c.append_members.new.pull own least type given (heard_error e) still
    (c.in_ok-tag.ensures.is given fine is)
    (hears_error (read_given_members type mid.state given) (list_of own least) e _ _ _ _
    (c.in_err-end.ensures.reads given (fine_still old mid still fine) (given_still old mid given still is))))

pub append_list-returns-then-end-gt0-clause-reads : goal.append_list-returns-then-end-gt0-clause-reads
append_list-returns-then-end-gt0-clause-reads g t c = λ given fine is.
    let own = tag_of c.args.own in
    let least = c.args.members.least in
    let type = term_of c.args.members.shape.now in
    let old = c.args.pull.now in
    let mid = c.leave_room.new.pull in
    let still = unmoved_still old c.expect_own.new.pull mid c.in_ok-tag.ensures.same c.in_ok-leave_room.ensures.still in
    let read = c.in_ok-end.ensures.reads given (fine_still old mid still fine) (given_still old mid given still is) in
    let first = c.refuse.ensures.first (search rules) in
    refused_by _ old c.append_members.new.pull c.refuse.new.self (fault c.in_ok-end.end.at Missing) c.refuse.result
    first.0 first.1 c.refuse.ensures.same
    (list_behind_tag old mid c.append_members.new.pull own least type given _ still
    (c.in_ok-tag.ensures.is given fine is)
    (hears_then (read_given_members type mid.state given) (list_of own least)
    (ended read.0 c.in_ok-end.end.at) _ _ _ _ _ _ _ read.3
    (hears_off _ _ _ _ _ (too_few least (length read.0) _ read.2 (search rules)))))

pub append_list-returns-clause-reads : goal.append_list-returns-clause-reads
append_list-returns-clause-reads g t c = λ given fine is.
    let own = tag_of c.args.own in
    let least = c.args.members.least in
    let type = term_of c.args.members.shape.now in
    let old = c.args.pull.now in
    let mid = c.leave_room.new.pull in
    let before = c.args.text.now.items in
    let still = unmoved_still old c.expect_own.new.pull mid c.in_ok-tag.ensures.same c.in_ok-leave_room.ensures.still in
    let read = c.in_ok-end.ensures.reads given (fine_still old mid still fine) (given_still old mid given still is) in
    let v = Sequence own (values_of read.0) in
    text_put old c.append_members.new.pull c.put_header.new.pull
    (read_given (SequenceOfType own least type) old.state given) v _ _ _
    (list_behind_tag old mid c.append_members.new.pull own least type given (Said v) still
    (c.in_ok-tag.ensures.is given fine is)
    (hears_then (read_given_members type mid.state given) (list_of own least)
    (ended read.0 c.in_ok-end.end.at) _ _ _ _ _ _ _ read.3
    (hears_on _ _ _ _ _ _ _ _ (enough least (length read.0) _ read.2 (search rules)) (hears_done _ _ _))))
    (ok_so c.put_header.result c.put_header.ensures.put
    (λ put.
    put before (0 ∷ 0 ∷ []) (texts_of read.0) (search rules) refl
    (behind_header read.0 _ before (0 ∷ 0 ∷ []) _ _ _ c.in_ok-leave_room.ensures.put read.1)
    ∙ ap (λ z. before ++ z)
    (ap (λ z. framed z (texts_of read.0)) c.in_ok-tag.ensures.own ∙ sym (der_row own read.0))))
    c.put_header.ensures.still
    c.put_header.ensures.stops

pub append_set-returns-in_err-tag-clause-reads : goal.append_set-returns-in_err-tag-clause-reads
append_set-returns-in_err-tag-clause-reads g t c = λ given fine is.
    let own = tag_of c.args.own in
    let least = c.args.members.least in
    let type = term_of c.args.members.shape.now in
    let s = c.args.pull.now.state in
    text_err c.args.pull.now c.expect_own.new.pull (read_given (SetOfType own least type) s given) _ _
    c.from_residual.result c.in_err-tag.field-0.0 (search rules)
    (hears_as _ _ _ _ _ _ _ (set_type_is own least type s given) (c.in_err-tag.ensures.stops given fine is _))

pub append_set-returns-in_err-end-clause-reads : goal.append_set-returns-in_err-end-clause-reads
append_set-returns-in_err-end-clause-reads g t c = λ given fine is.
    let own = tag_of c.args.own in
    let least = c.args.members.least in
    let type = term_of c.args.members.shape.now in
    let old = c.args.pull.now in
    let mid = c.expect_own.new.pull in
    let still = c.in_ok-tag.ensures.same in
    let e = c.in_err-end.field-0.0 in
    text_err old c.append_members.new.pull (read_given (SetOfType own least type) old.state given) _ _
    c.from_residual-in_err-end.result e (search rules)
    (set_behind_tag old mid c.append_members.new.pull own least type given (heard_error e) still
    (c.in_ok-tag.ensures.is given fine is)
    (hears_error (read_given_members type mid.state given) (set_of own least given.at) e _ _ _ _
    (c.in_err-end.ensures.reads given (fine_still old mid still fine) (given_still old mid given still is))))

pub append_set-returns-then-end-gt0-clause-reads : goal.append_set-returns-then-end-gt0-clause-reads
append_set-returns-then-end-gt0-clause-reads g t c = λ given fine is.
    let own = tag_of c.args.own in
    let least = c.args.members.least in
    let type = term_of c.args.members.shape.now in
    let old = c.args.pull.now in
    let mid = c.expect_own.new.pull in
    let still = c.in_ok-tag.ensures.same in
    let read = c.in_ok-end.ensures.reads given (fine_still old mid still fine) (given_still old mid given still is) in
    let first = c.refuse.ensures.first (search rules) in
    refused_by _ old c.append_members.new.pull c.refuse.new.self (fault given.at EmptySet) c.refuse.result
    (first.0
    ∙ ap (λ p. errors.Fault (fault p EmptySet)) (c.at-at.ensures.value ∙ place_given old.state given is))
    first.1 c.refuse.ensures.same
    (set_behind_tag old mid c.append_members.new.pull own least type given _ still
    (c.in_ok-tag.ensures.is given fine is)
    (hears_then (read_given_members type mid.state given) (set_of own least given.at)
    (ended read.0 c.in_ok-end.end.at) _ _ _ _ _ _ _ read.3
    (hears_off _ _ _ _ _ (too_few least (length read.0) _ read.2 (search rules)))))

pub append_set-returns-in_err-contents-clause-reads : goal.append_set-returns-in_err-contents-clause-reads
append_set-returns-in_err-contents-clause-reads g t c = λ given fine is.
    let own = tag_of c.args.own in
    let least = c.args.members.least in
    let type = term_of c.args.members.shape.now in
    let old = c.args.pull.now in
    let mid = c.expect_own.new.pull in
    let still = c.in_ok-tag.ensures.same in
    let read = c.in_ok-end.ensures.reads given (fine_still old mid still fine) (given_still old mid given still is) in
    let stop = c.in_err-contents.ensures.stops in
    let e = c.in_err-contents.field-0.0 in
    text_err old c.arranged.new.pull (read_given (SetOfType own least type) old.state given) _ _
    c.from_residual-in_err-contents.result e (search rules)
    (set_behind_tag old mid c.arranged.new.pull own least type given (heard_error e) still
    (c.in_ok-tag.ensures.is given fine is)
    (hears_error (read_given_members type mid.state given) (set_of own least given.at) e _ _ _ _
    (hears_then_memory _ (ended read.0 c.in_ok-end.end.at) e _ _ _ _ _ _ stop.0 (ap (λ z. z.taken) stop.2)
    (ap g.R.Source.remaining stop.1) read.3)))

pub append_set-returns-clause-reads : goal.append_set-returns-clause-reads
append_set-returns-clause-reads g t c = λ given fine is.
    let own = tag_of c.args.own in
    let least = c.args.members.least in
    let type = term_of c.args.members.shape.now in
    let old = c.args.pull.now in
    let mid = c.expect_own.new.pull in
    let still = c.in_ok-tag.ensures.same in
    let read = c.in_ok-end.ensures.reads given (fine_still old mid still fine) (given_still old mid given still is) in
    let v = SetOf own (values_of read.0) in
    let p = read_given (SetOfType own least type) old.state given in
    let contents = c.in_ok-contents.contents.items in
    let are = stand_first read.0 _ _ _ (search rules)
    (subst (λ b.
    StandBehind b read.0 c.new-octets.result.items c.append_members.new.text.items c.append_members.new.starts.items)
    c.requires.set read.1) in
    let der_is : der v ≡ framed c.in_ok-tag.tag contents =
    c.in_ok-contents.ensures.is read.0 own (are.0, c.deref.ensures.value ∙ are.1)
    ∙ ap (λ z. framed z contents) (sym c.in_ok-tag.ensures.own) in
    text_put old c.arranged.new.pull c.append_element.new.pull p v _ _ _
    (subst (λ z. Answers old z p (Said v)) (sym c.in_ok-contents.ensures.still)
    (set_behind_tag old mid c.append_members.new.pull own least type given (Said v) still
    (c.in_ok-tag.ensures.is given fine is)
    (hears_then (read_given_members type mid.state given) (set_of own least given.at)
    (ended read.0 c.in_ok-end.end.at) _ _ _ _ _ _ _ read.3
    (hears_on _ _ _ _ _ _ _ _ (enough least (length read.0) _ read.2 (search rules)) (hears_done _ _ _)))))
    (ok_so c.append_element.result c.append_element.ensures.put
    (λ put.
    put ∙ ap (λ z. c.args.text.now.items ++ z) (ap (framed c.in_ok-tag.tag) c.deref-2.ensures.value ∙ sym der_is)))
    c.append_element.ensures.still
    c.append_element.ensures.stops

pub append_choice-returns-then-fits-clause-reads : goal.append_choice-returns-then-fits-clause-reads
append_choice-returns-then-fits-clause-reads g t c = λ given fine is.
    let old = c.args.pull.now in
    let mid = c.next_tag.new.self in
    let first = term_of c.args.first.now in
    let second = term_of c.args.second.now in
    let still = (c.in_ok-tag.ensures.given given fine is).1 in
    let fits : fits_tag first given.tag ≡ true = search rules in
    text_through old mid c.append_shaped.new.pull _ (read_given (ChoiceType first second) old.state given) _ _ _
    (λ h x.
    unmoved_answers (λ z. read_given (ChoiceType first second) z given) old mid c.append_shaped.new.pull h
    still
    (hears_as _ _ _ _ _ _ _ (as_first first second mid.state given fits) x))
    (c.append_shaped.ensures.reads given (fine_still old mid still fine) (given_still old mid given still is))

pub append_choice-returns-else-fits-clause-reads : goal.append_choice-returns-else-fits-clause-reads
append_choice-returns-else-fits-clause-reads g t c = λ given fine is.
    let old = c.args.pull.now in
    let mid = c.next_tag.new.self in
    let first = term_of c.args.first.now in
    let second = term_of c.args.second.now in
    let still = (c.in_ok-tag.ensures.given given fine is).1 in
    let fits : fits_tag first given.tag ≡ false = search rules in
    text_through old mid c.append_shaped-else-fits.new.pull _ (read_given (ChoiceType first second) old.state given)
    _ _ _
    (λ h x.
    unmoved_answers (λ z. read_given (ChoiceType first second) z given) old mid c.append_shaped-else-fits.new.pull h
    still
    (hears_as _ _ _ _ _ _ _ (as_second first second mid.state given fits) x))
    (c.append_shaped-else-fits.ensures.reads given (fine_still old mid still fine) (given_still old mid given still is))

pub append_due-returns-in_default-clause-reads : goal.append_due-returns-in_default-clause-reads
append_due-returns-in_default-clause-reads g t c = λ earlier outer inside a.
    let first = c.refuse.ensures.first c.requires.fine in
    take_then _ _ _ _ _ _ _ _ _ _
    (hears_error _ _ c.refuse.result _ _ _ _
    (hears_stop _ (fault c.args.next.now.at Missing) _ _ _ _ _ _ _ first.0 (ap (λ s. s.taken) first.1)
    (ap g.R.Source.remaining c.refuse.ensures.same)
    (take_missing outer.limits _ earlier inside c.args.next.now.at c.args.next.now.tag _ _ c.in_default.is)))

pub append_due-returns-then-not-fits-clause-reads : goal.append_due-returns-then-not-fits-clause-reads
append_due-returns-then-not-fits-clause-reads g t c = λ earlier outer inside a.
    let first = c.refuse-then-not-fits.ensures.first c.requires.fine in
    take_then _ _ _ _ _ _ _ _ _ _
    (hears_error _ _ c.refuse-then-not-fits.result _ _ _ _
    (hears_stop _ (fault c.args.next.now.at WrongTag) _ _ _ _ _ _ _ first.0 (ap (λ s. s.taken) first.1)
    (ap g.R.Source.remaining c.refuse-then-not-fits.ensures.same)
    (take_wrong outer.limits _ earlier inside c.args.next.now.at c.args.next.now.tag
    (c.in-Some.tag, c.in-Some.field-0-1) _ _ c.in-Some.is (sym c.fits.ensures ∙ c.if-not-fits.true))))

pub append_due-returns-in_err-append_shaped-clause-reads : goal.append_due-returns-in_err-append_shaped-clause-reads
append_due-returns-in_err-append_shaped-clause-reads g t c = λ earlier outer inside a.
    let s = c.args.pull.now.state in
    let at = c.args.next.now.at in
    let n = c.args.next.now.tag in
    let e : Tag × Bool = (c.in-Some.tag, c.in-Some.field-0-1) in
    let given : Given = record { at = at; tag = c.in-Some.tag; constructed = c.in-Some.field-0-1 } in
    let is = field_given outer inside s at n e a c.in-Some.is in
    with_error _ _ c.from_residual.result c.in_err-append_shaped.field-0.0 (search rules)
    (take_then _ _ _ _ _ _ _ _ _ _
    (hears_error _ _ c.in_err-append_shaped.field-0.0 _ _ _ _
    (taken_as outer inside c.args.shape.now c.requires.plain s at n e earlier _ _ _ _ _ a c.in-Some.is
    (sym c.fits.ensures ∙ c.if-not-fits.false)
    (c.in_err-append_shaped.ensures.reads given c.requires.fine is))))

pub append_due-returns-in_err-next-clause-reads : goal.append_due-returns-in_err-next-clause-reads
append_due-returns-in_err-next-clause-reads g t c = λ earlier outer inside a.
    let s = c.args.pull.now.state in
    let at = c.args.next.now.at in
    let n = c.args.next.now.tag in
    let e : Tag × Bool = (c.in-Some.tag, c.in-Some.field-0-1) in
    let given : Given = record { at = at; tag = c.in-Some.tag; constructed = c.in-Some.field-0-1 } in
    let is = field_given outer inside s at n e a c.in-Some.is in
    let within = used_within outer inside s (next_at at n) c.append_shaped.new.pull.state a
    (stands_some at n e c.in-Some.is) c.in_ok-append_shaped.ensures.stands in
    let read = c.in_ok-append_shaped.ensures.reads given c.requires.fine is in
    with_error _ _ c.from_residual-in_err-next.result c.in_err-next.field-0.0 (search rules)
    (take_then _ _ _ _ _ _ _ _ _ _
    (hears_then _ _ read.0 _ _ _ _ _ _ _
    (taken_as outer inside c.args.shape.now c.requires.plain s at n e earlier _ _ _ _ _ a c.in-Some.is
    (sym c.fits.ensures ∙ c.if-not-fits.false) read.2)
    (hears_error _ _ c.in_err-next.field-0.0 _ _ _ _ (c.in_err-next.ensures.reads outer inside within))))

pub append_due-returns-clause-reads : goal.append_due-returns-clause-reads
append_due-returns-clause-reads g t c = λ earlier outer inside a.
    let s = c.args.pull.now.state in
    let at = c.args.next.now.at in
    let n = c.args.next.now.tag in
    let e : Tag × Bool = (c.in-Some.tag, c.in-Some.field-0-1) in
    let given : Given = record { at = at; tag = c.in-Some.tag; constructed = c.in-Some.field-0-1 } in
    let is = field_given outer inside s at n e a c.in-Some.is in
    let within = used_within outer inside s (next_at at n) c.append_shaped.new.pull.state a
    (stands_some at n e c.in-Some.is) c.in_ok-append_shaped.ensures.stands in
    let read = c.in_ok-append_shaped.ensures.reads given c.requires.fine is in (
      read.0,
      read.1,
      take_then _ _ _ _ _ _ _ _ _ _
          (hears_then _ _ read.0 _ _ _ _ _ _ _
          (taken_as outer inside c.args.shape.now c.requires.plain s at n e earlier _ _ _ _ _ a c.in-Some.is
          (sym c.fits.ensures ∙ c.if-not-fits.false) read.2)
          (hears_then _ _ (next_of c.in_ok-next.field-0) _ _ _ _ _ _ _
          (c.in_ok-next.ensures.reads outer inside within) (hears_done _ _ _))),
    )

pub append_due-returns-clause-stands : goal.append_due-returns-clause-stands
append_due-returns-clause-stands g t c = λ outer inside a.
    let s = c.args.pull.now.state in
    let at = c.args.next.now.at in
    let n = c.args.next.now.tag in
    let e : Tag × Bool = (c.in-Some.tag, c.in-Some.field-0-1) in
    c.in_ok-next.ensures.stands outer inside
    (used_within outer inside s (next_at at n) c.append_shaped.new.pull.state a
    (stands_some at n e c.in-Some.is) c.in_ok-append_shaped.ensures.stands)

pub append_sequence-returns-in_err-tag-clause-reads : goal.append_sequence-returns-in_err-tag-clause-reads
append_sequence-returns-in_err-tag-clause-reads g t c = λ given fine is.
    let own = tag_of c.args.own in
    let fields = fields_of c.args.fields.now in
    let s = c.args.pull.now.state in
    text_err c.args.pull.now c.expect_own.new.pull (read_given (SequenceType own fields) s given) _ _
    c.from_residual.result c.in_err-tag.field-0.0 (search rules)
    (hears_as _ _ _ _ _ _ _ (sequence_type_is own fields s given) (c.in_err-tag.ensures.stops given fine is _))

pub append_sequence-returns-in_err-leave_room-clause-reads : goal.append_sequence-returns-in_err-leave_room-clause-reads
append_sequence-returns-in_err-leave_room-clause-reads g t c = λ given fine is.
    let own = tag_of c.args.own in
    let fields = fields_of c.args.fields.now in
    let old = c.args.pull.now in
    let stop = c.in_err-leave_room.ensures.stops in
    let e = c.in_err-leave_room.field-0.0 in
    text_err old c.leave_room.new.pull (read_given (SequenceType own fields) old.state given) _ _
    c.from_residual-in_err-leave_room.result e (search rules)
    (unmoved_answers (λ z. read_given (SequenceType own fields) z given) old c.expect_own.new.pull
    c.leave_room.new.pull (heard_error e) c.in_ok-tag.ensures.same
    (hears_memory _ e _ _ _ _ stop.0 (ap (λ z. z.taken) stop.2) (ap g.R.Source.remaining stop.1)))

pub append_sequence-returns-in_err-next-clause-reads : goal.append_sequence-returns-in_err-next-clause-reads
append_sequence-returns-in_err-next-clause-reads g t c = λ given fine is.
    let own = tag_of c.args.own in
    let fields = fields_of c.args.fields.now in
    let old = c.args.pull.now in
    let mid = c.leave_room.new.pull in
    let still = unmoved_still old c.expect_own.new.pull mid c.in_ok-tag.ensures.same c.in_ok-leave_room.ensures.still in
    let e = c.in_err-next.field-0.0 in
    text_err old c.begin.new.pull (read_given (SequenceType own fields) old.state given) _ _
    c.from_residual-in_err-next.result e (search rules)
    (unmoved_answers (λ z. read_given (SequenceType own fields) z given) old mid c.begin.new.pull (heard_error e) still
    (begins_error mid.state.limits own _ fields [] (enclosing mid.state) given.at given.tag given.constructed e _ _ _ _
    c.in_ok-tag.ensures.own
    (c.in_err-next.ensures.reads given (fine_still old mid still fine) (given_still old mid given still is))))

pub append_sequence-returns-in_err-append_fields-clause-reads : goal.append_sequence-returns-in_err-append_fields-clause-reads
append_sequence-returns-in_err-append_fields-clause-reads g t c = λ given fine is.
    let own = tag_of c.args.own in
    let fields = fields_of c.args.fields.now in
    let old = c.args.pull.now in
    let mid = c.leave_room.new.pull in
    let still = unmoved_still old c.expect_own.new.pull mid c.in_ok-tag.ensures.same c.in_ok-leave_room.ensures.still in
    let begun =
    c.in_ok-next.ensures.reads given (fine_still old mid still fine) (given_still old mid given still is) in
    let e = c.in_err-append_fields.field-0.0 in
    text_err old c.append_fields.new.pull (read_given (SequenceType own fields) old.state given) _ _
    c.from_residual-in_err-append_fields.result e (search rules)
    (unmoved_answers (λ z. read_given (SequenceType own fields) z given) old mid c.append_fields.new.pull
    (heard_error e) still
    (begins mid.state.limits own _ fields [] (enclosing mid.state) given.at given.tag given.constructed
    (enclosing c.begin.new.pull.state) _ (heard_error e) _ _ _ _ _ _ c.in_ok-tag.ensures.own begun
    (hears_error _ (λ vs. Done (Sequence own (values_of vs))) e _ _ _ _
    (c.in_err-append_fields.ensures.reads [] mid.state (enclosing c.begin.new.pull.state)
    c.in_ok-next.ensures.stands))))

pub append_sequence-returns-clause-reads : goal.append_sequence-returns-clause-reads
append_sequence-returns-clause-reads g t c = λ given fine is.
    let own = tag_of c.args.own in
    let fields = fields_of c.args.fields.now in
    let old = c.args.pull.now in
    let mid = c.leave_room.new.pull in
    let before = c.args.text.now.items in
    let still = unmoved_still old c.expect_own.new.pull mid c.in_ok-tag.ensures.same c.in_ok-leave_room.ensures.still in
    let begun =
    c.in_ok-next.ensures.reads given (fine_still old mid still fine) (given_still old mid given still is) in
    let read =
    c.in_ok-append_fields.ensures.reads [] mid.state (enclosing c.begin.new.pull.state) c.in_ok-next.ensures.stands in
    let v = Sequence own (values_of read.0) in
    text_put old c.append_fields.new.pull c.put_header.new.pull
    (read_given (SequenceType own fields) old.state given) v _ _ _
    (unmoved_answers (λ z. read_given (SequenceType own fields) z given) old mid c.append_fields.new.pull
    (Said v) still
    (begins mid.state.limits own _ fields [] (enclosing mid.state) given.at given.tag given.constructed
    (enclosing c.begin.new.pull.state) _ (Said v) _ _ _ _ _ _ c.in_ok-tag.ensures.own begun
    (hears_then _ (λ vs. Done (Sequence own (values_of vs))) read.0 _ _ _ _ _ _ _ read.2 (hears_done _ _ _))))
    (ok_so c.put_header.result c.put_header.ensures.put
    (λ put.
    put before (0 ∷ 0 ∷ []) (texts_of read.0) (search rules) refl
    (read.1
    ∙ (ap (λ z. z ++ texts_of read.0) c.in_ok-leave_room.ensures.put
    ∙ append_assoc before (0 ∷ 0 ∷ []) (texts_of read.0)))
    ∙ ap (λ z. before ++ z)
    (ap (λ z. framed z (texts_of read.0)) c.in_ok-tag.ensures.own ∙ sym (der_row own read.0))))
    c.put_header.ensures.still
    c.put_header.ensures.stops

pub append_sequence-put_header-requires-clause-room : goal.append_sequence-put_header-requires-clause-room
append_sequence-put_header-requires-clause-room g t c =
    let mid = c.leave_room.new.pull in
    let before = c.args.text.now.items in
    let read =
    c.in_ok-append_fields.ensures.reads [] mid.state (enclosing c.begin.new.pull.state) c.in_ok-next.ensures.stands in
    omega (
      arith,
      ap length read.1,
      ap length c.in_ok-leave_room.ensures.put,
      length-append c.leave_room.new.text.items (texts_of read.0),
      length-append before (0 ∷ 0 ∷ []),
    )

pub append_fields-returns-in-End-clause-reads : goal.append_fields-returns-in-End-clause-reads
append_fields-returns-in-End-clause-reads g t c = λ earlier outer inside a.
    let next = c.args.next.now in
    fields_as _ _ _ _ _ _ _ _ c.end.result
    (ap (λ z. read_fields outer.limits (fields_of z) earlier inside (next_of next)) (sym c.in-End.is))
    (end_of_fields outer.limits earlier inside (next_of next) _ _ _ _ _ _ (c.end.ensures.reads outer inside a))

pub append_fields-returns-in_err-append_due-in-Required-clause-reads : goal.append_fields-returns-in_err-append_due-in-Required-clause-reads
append_fields-returns-in_err-append_due-in-Required-clause-reads g t c = λ earlier outer inside a.
    let e = c.in_err-append_due-in-Required.field-0.0 in
    let next = c.args.next.now in
    with_error _ _ c.from_residual.result e (search rules)
    (hears_as _ _ _ _ _ _ _
    (ap (λ z. read_fields outer.limits (fields_of z) earlier inside (next_of next)) (sym c.in-Required.is))
    (due_stops outer.limits (term_of c.in-Required.shape.now) (fields_of c.in-Required.after.now) earlier inside
    (next_of next) e _ _ _ _ (c.in_err-append_due-in-Required.ensures.reads earlier outer inside a)))

pub append_fields-returns-in_ok-append_due-in-Required-clause-reads : goal.append_fields-returns-in_ok-append_due-in-Required-clause-reads
append_fields-returns-in_ok-append_due-in-Required-clause-reads g t c = λ earlier outer inside a.
    let read = c.in_ok-append_due-in-Required.ensures.reads earlier outer inside a in
    let next = c.args.next.now in
    fields_as _ _ _ _ _ _ _ _ c.append_fields.result
    (ap (λ z. read_fields outer.limits (fields_of z) earlier inside (next_of next)) (sym c.in-Required.is))
    (due_then_fields outer.limits (term_of c.in-Required.shape.now) (fields_of c.in-Required.after.now) earlier inside
    (next_of next) _ read.0 _ _ _ _ _ _ _ _ _ _ read.2 read.1
    (c.append_fields.ensures.reads (earlier ++ read.0 ∷ []) outer inside
    (c.in_ok-append_due-in-Required.ensures.stands outer inside a)))

pub append_fields-returns-in_ok-append_due-in-Required-clause-stands : goal.append_fields-returns-in_ok-append_due-in-Required-clause-stands
append_fields-returns-in_ok-append_due-in-Required-clause-stands g t c =
    ok_so c.append_fields.result c.append_fields.ensures.stands
    (λ leaves outer inside a.
    leaves outer inside (c.in_ok-append_due-in-Required.ensures.stands outer inside a))

pub append_fields-returns-then-not-stands-clause-reads : goal.append_fields-returns-then-not-stands-clause-reads
append_fields-returns-then-not-stands-clause-reads g t c = λ earlier outer inside a.
    let next = c.args.next.now in
    fields_as _ _ _ _ _ _ _ _ c.append_fields-then-not-stands.result
    (optional_absent outer.limits (term_of c.in-Optional.shape.now) (fields_of c.in-Optional.after.now) earlier inside
    next.at next.tag (sym c.stands.ensures ∙ c.if-not-stands.true)
    ∙ ap (λ z. read_fields outer.limits (fields_of z) earlier inside (next_of next)) (sym c.in-Optional.is))
    (c.append_fields-then-not-stands.ensures.reads earlier outer inside a)

pub append_fields-returns-in_err-append_due-in-Optional-clause-reads : goal.append_fields-returns-in_err-append_due-in-Optional-clause-reads
append_fields-returns-in_err-append_due-in-Optional-clause-reads g t c = λ earlier outer inside a.
    let e = c.in_err-append_due-in-Optional.field-0.0 in
    let next = c.args.next.now in
    let type = term_of c.in-Optional.shape.now in
    with_error _ _ c.from_residual-in_err-append_due-in-Optional.result e (search rules)
    (hears_as _ _ _ _ _ _ _
    (optional_there outer.limits type (fields_of c.in-Optional.after.now) earlier inside next.at next.tag
    (sym c.stands.ensures ∙ c.if-not-stands.false)
    ∙ ap (λ z. read_fields outer.limits (fields_of z) earlier inside (next_of next)) (sym c.in-Optional.is))
    (due_stops outer.limits type (fields_of c.in-Optional.after.now) earlier inside
    (next_of next) e _ _ _ _ (c.in_err-append_due-in-Optional.ensures.reads earlier outer inside a)))

pub append_fields-returns-in_ok-append_due-in-Optional-clause-reads : goal.append_fields-returns-in_ok-append_due-in-Optional-clause-reads
append_fields-returns-in_ok-append_due-in-Optional-clause-reads g t c = λ earlier outer inside a.
    let read = c.in_ok-append_due-in-Optional.ensures.reads earlier outer inside a in
    let next = c.args.next.now in
    let type = term_of c.in-Optional.shape.now in
    fields_as _ _ _ _ _ _ _ _ c.append_fields-in-Optional.result
    (optional_there outer.limits type (fields_of c.in-Optional.after.now) earlier inside next.at next.tag
    (sym c.stands.ensures ∙ c.if-not-stands.false)
    ∙ ap (λ z. read_fields outer.limits (fields_of z) earlier inside (next_of next)) (sym c.in-Optional.is))
    (due_then_fields outer.limits type (fields_of c.in-Optional.after.now) earlier inside
    (next_of next) _ read.0 _ _ _ _ _ _ _ _ _ _ read.2 read.1
    (c.append_fields-in-Optional.ensures.reads (earlier ++ read.0 ∷ []) outer inside
    (c.in_ok-append_due-in-Optional.ensures.stands outer inside a)))

pub append_fields-returns-in_ok-append_due-in-Optional-clause-stands : goal.append_fields-returns-in_ok-append_due-in-Optional-clause-stands
append_fields-returns-in_ok-append_due-in-Optional-clause-stands g t c =
    ok_so c.append_fields-in-Optional.result c.append_fields-in-Optional.ensures.stands
    (λ leaves outer inside a.
    leaves outer inside (c.in_ok-append_due-in-Optional.ensures.stands outer inside a))

pub append_fields-returns-in_err-append_default-in-Default-clause-reads : goal.append_fields-returns-in_err-append_default-in-Default-clause-reads
append_fields-returns-in_err-append_default-in-Default-clause-reads g t c = λ earlier outer inside a.
    let e = c.in_err-append_default-in-Default.field-0.0 in
    let next = c.args.next.now in
    let leaf = c.leaf_of-leaf.result in
    let own = tag_of leaf.own in
    let kind = kind_of leaf.contents in
    let octets = leaf.default.now in
    let rest = fields_of c.in-Default.after.now in
    with_error _ _ c.from_residual-in_err-append_default-in-Default.result e (search rules)
    (hears_as _ _ _ _ _ _ _
    (default_is outer.limits own kind octets c.in-Default.shape.now rest earlier inside
    (next_of next) c.leaf_of-leaf.ensures.typed c.leaf_of-leaf.ensures.tagged
    ∙ (ap (λ o.
    read_fields outer.limits
    (Default (leaf_tag c.in-Default.shape.now) o (term_of c.in-Default.shape.now) rest) earlier inside (next_of next))
    c.leaf_of-leaf.ensures.same
    ∙ ap (λ z. read_fields outer.limits (fields_of z) earlier inside (next_of next)) (sym c.in-Default.is)))
    (default_stops outer.limits own octets (LeafType own kind) rest earlier inside
    (next_of next) e _ _ _ _ (c.in_err-append_default-in-Default.ensures.reads earlier outer inside a)))

pub append_fields-returns-in_ok-append_default-in-Default-clause-reads : goal.append_fields-returns-in_ok-append_default-in-Default-clause-reads
append_fields-returns-in_ok-append_default-in-Default-clause-reads g t c = λ earlier outer inside a.
    let read = c.in_ok-append_default-in-Default.ensures.reads earlier outer inside a in
    let next = c.args.next.now in
    let leaf = c.leaf_of-leaf.result in
    let own = tag_of leaf.own in
    let kind = kind_of leaf.contents in
    let octets = leaf.default.now in
    let rest = fields_of c.in-Default.after.now in
    fields_as _ _ _ _ _ _ _ _ c.append_fields-in-Default.result
    (default_is outer.limits own kind octets c.in-Default.shape.now rest earlier inside
    (next_of next) c.leaf_of-leaf.ensures.typed c.leaf_of-leaf.ensures.tagged
    ∙ (ap (λ o.
    read_fields outer.limits
    (Default (leaf_tag c.in-Default.shape.now) o (term_of c.in-Default.shape.now) rest) earlier inside (next_of next))
    c.leaf_of-leaf.ensures.same
    ∙ ap (λ z. read_fields outer.limits (fields_of z) earlier inside (next_of next)) (sym c.in-Default.is)))
    (default_then_fields outer.limits own octets (LeafType own kind) rest earlier inside
    (next_of next) _ read.0 _ _ _ _ _ _ _ _ _ _ read.2 read.1
    (c.append_fields-in-Default.ensures.reads (earlier ++ with_field (but_default own octets read.0) []) outer inside
    (c.in_ok-append_default-in-Default.ensures.stands outer inside a)))

pub append_fields-returns-in_ok-append_default-in-Default-clause-stands : goal.append_fields-returns-in_ok-append_default-in-Default-clause-stands
append_fields-returns-in_ok-append_default-in-Default-clause-stands g t c =
    ok_so c.append_fields-in-Default.result c.append_fields-in-Default.ensures.stands
    (λ leaves outer inside a.
    leaves outer inside (c.in_ok-append_default-in-Default.ensures.stands outer inside a))
