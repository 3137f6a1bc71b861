use Rattle.std.proofs.Common.{rules, arith, ◌≡◌, ◌∙◌, ◌++◌, ◌∷◌, ◌≤◌, [], IfSome, None, ap, length, map, subst, sym}
use Rattle.x690.specs.ReadTypes.{read_type}
use Rattle.x690.specs.Reads.{Said}
use Rattle.ber_pull.specs.Hears.{heard_error, next_at}
use Rattle.ber_pull.specs.Standing.{after_next, enclosing, IsGiven, place}
use Rattle.ber_pull.specs.declared.state.Given.{Given}
use Rattle.ber_pull.proofs.Hearing.{hears_at, hears_said}
use Rattle.asn_elements.specs.Reading.{ended, read_given_members}
use Rattle.asn_elements.proofs.ReaderAnswers.{members_err, none_by, some_given}
use Rattle.asn_elements.proofs.MemberReadings.{Inside, member_reads, inside_ends, inside_error, inside_here, inside_memory, inside_more, inside_never, inside_start, inside_stops, all_used, left, still_open}
use Rattle.x690.specs.Lists.{Each}
use Rattle.x690.specs.Values.{Same}
use Rattle.ber_pull.proofs.Nexts.{place_taken}
use Rattle.asn_elements.proofs.MappedMembers.{map_last}
use Rattle.asn_elements.proofs.SameMembers.{each_last, each_texts}
use Rattle.asn_elements.proofs.ShortElements.{element_short}
use Rattle.asn_lists.proofs.members.read_members.Goals as goal

pub returns-in_err-enter-clause-reads : goal.returns-in_err-enter-clause-reads
returns-in_err-enter-clause-reads g c = λ given fine is.
    members_err c.args.pull.now c.enter.new.self (read_given_members g.T.Element.type_term c.args.pull.now.state given)
    (λ v. map g.T.DerText.value v.0.items) (λ v. v.1) c.from_residual.result c.in_err-enter.field-0.0 (search rules)
    (inside_never (read_type c.args.pull.now.state.limits g.T.Element.type_term [])
    c.args.pull.now c.enter.new.self given c.in_err-enter.field-0.0
    (c.in_err-enter.ensures.reads given fine is))

pub loop-items-init : goal.loop-items-init
loop-items-init g c =
    let fine : c.args.pull.now.state.error ≡ None =
    none_by c.args.pull.now.state.error (λ e h. let r = (c.in_ok-enter.ensures.repeats e h).0 in cc) in (
      search rules,
      search rules,
      search rules,
      search rules,
      search rules,
      search rules,
      fine,
      λ given is.
          let type = g.T.Element.type_term in
          let limits = c.args.pull.now.state.limits in
          let stands = c.in_ok-enter.ensures.stands in (
            [],
            rw c.new-items.ensures.items tt,
            inside_start (read_type limits type []) c.args.pull.now c.enter.new.self given stands.0 is
                (search rules) c.in_ok-enter.ensures.frame.same_source stands.1 c.in_ok-enter.ensures.advances
                (c.in_ok-enter.ensures.reads given fine is),
          ),
    )

pub returns-in_err-_next-clause-reads : goal.returns-in_err-_next-clause-reads
returns-in_err-_next-clause-reads g c = λ given fine is.
    let i = (c.loop-items.invariant.7 given is).2 in
    members_err c.args.pull.now c.next_tag.new.self
    (read_given_members g.T.Element.type_term c.args.pull.now.state given) (λ v. map g.T.DerText.value v.0.items)
    (λ v. v.1) c.from_residual-in_err-_next.result c.in_err-_next.field-0.0 (search rules)
    (inside_error _ _ c.args.pull.now c.loop-items.pull _ i c.next_tag.new.self c.in_err-_next.field-0.0
    (c.in_err-_next.ensures.reads i.fine))

pub returns-in_err-item-clause-reads : goal.returns-in_err-item-clause-reads
returns-in_err-item-clause-reads g c = λ given fine is.
    let before = c.loop-items.invariant.7 given is in
    let i = before.2 in
    let type = g.T.Element.type_term in
    let limits = c.args.pull.now.state.limits in
    let one = read_type limits type [] in
    let p = read_given_members type c.args.pull.now.state given in
    let next = hears_said _ _ _ _ _ _ _ (ap (next_at (place c.loop-items.pull.state)) c.in-Some.is)
    (c.in_ok-_next.ensures.reads i.fine) in
    let stands = c.in_ok-_next.ensures.stands i.none_given
    ∙ ap (λ z. after_next c.next_tag.new.self.state.taken z c.loop-items.pull.state) c.in-Some.is in
    let new-given : Given =
    record { at = c.loop-items.pull.state.taken; tag = c.in-Some._next.0; constructed = c.in-Some._next.1 } in
    let read = c.in_err-item.ensures.reads new-given (search rules) (ap (λ z. z.given) stands) in
    let member = member_reads
    (λ l. read_type l type [])
    limits c.loop-items.pull c.next_tag.new.self c.read.new.pull c.in-Some._next.0 c.in-Some._next.1
    (heard_error c.in_err-item.field-0.0) i.none_given i.limits stands read in
    members_err c.args.pull.now c.read.new.pull (read_given_members g.T.Element.type_term c.args.pull.now.state given)
    (λ v. map g.T.DerText.value v.0.items) (λ v. v.1) c.from_residual-in_err-item.result c.in_err-item.field-0.0
    (search rules) (inside_stops one p c.args.pull.now c.loop-items.pull before.0 i c.next_tag.new.self c.read.new.pull
    (place c.loop-items.pull.state) c.in-Some._next.0 c.in-Some._next.1 c.in_err-item.field-0.0 next member)

pub returns-in_err-keep-clause-reads : goal.returns-in_err-keep-clause-reads
returns-in_err-keep-clause-reads g c = λ given fine is.
    let before = c.loop-items.invariant.7 given is in
    let i = before.2 in
    let type = g.T.Element.type_term in
    let limits = c.args.pull.now.state.limits in
    let one = read_type limits type [] in
    let p = read_given_members type c.args.pull.now.state given in
    let next = hears_said _ _ _ _ _ _ _ (ap (next_at (place c.loop-items.pull.state)) c.in-Some.is)
    (c.in_ok-_next.ensures.reads i.fine) in
    let stands = c.in_ok-_next.ensures.stands i.none_given
    ∙ ap (λ z. after_next c.next_tag.new.self.state.taken z c.loop-items.pull.state) c.in-Some.is in
    let new-given : Given =
    record { at = c.loop-items.pull.state.taken; tag = c.in-Some._next.0; constructed = c.in-Some._next.1 } in
    let read = c.in_ok-item.ensures.reads new-given (search rules) (ap (λ z. z.given) stands) in
    let member = member_reads
    (λ l. read_type l type [])
    limits c.loop-items.pull c.next_tag.new.self c.read.new.pull c.in-Some._next.0 c.in-Some._next.1
    (Said read.0) i.none_given i.limits stands read.2 in
    let fits =
    subst (λ o. IfSome o (λ t. IsGiven t.0 c.next_tag.new.self.state)) c.in-Some.is c.in_ok-_next.ensures.fits in
    let same-limits : c.next_tag.new.self.state.limits ≡ limits = ap (λ z. z.limits) stands ∙ i.limits in
    let below : limits.octets ≤ 2147483647 = omega (arith, fits.octets_fit, ap (λ z. z.octets) same-limits) in
    let short = element_short limits type (enclosing c.loop-items.pull.state)
    (place c.loop-items.pull.state) c.in-Some._next.0 c.in-Some._next.1 read.0 _ _ _ _ _ _ below
    (inside_here one p c.args.pull.now c.loop-items.pull before.0 i c.next_tag.new.self _ next) member in
    let more = inside_more one p c.args.pull.now c.loop-items.pull before.0 i c.next_tag.new.self c.read.new.pull
    (place c.loop-items.pull.state)
    c.in-Some._next.0 c.in-Some._next.1 read.0 next c.in_ok-_next.ensures.frame.same_source stands
    (search rules) member c.in_ok-item.ensures.frame.same_source c.in_ok-item.ensures.stands
    (search rules) c.in_ok-item.ensures.frame.onward.forward short below in
    let stop = c.in_err-keep.ensures.stops in
    members_err c.args.pull.now c.keep.new.pull (read_given_members g.T.Element.type_term c.args.pull.now.state given)
    (λ v. map g.T.DerText.value v.0.items) (λ v. v.1) c.from_residual-in_err-keep.result c.in_err-keep.field-0.0
    (search rules) (inside_memory one p c.args.pull.now c.read.new.pull
    (before.0 ++ read.0 ∷ []) more c.keep.new.pull c.in_err-keep.field-0.0 stop.0 (ap (λ z. z.taken) stop.2)
    (ap g.R.Source.remaining stop.1))

pub loop-items-preserved : goal.loop-items-preserved
loop-items-preserved g c = (
  search rules,
  search rules,
  search rules,
  search rules,
  search rules,
  search rules,
  c.loop-items.invariant.6,
  λ given is.
      let before = c.loop-items.invariant.7 given is in
      let i = before.2 in
      let type = g.T.Element.type_term in
      let limits = c.args.pull.now.state.limits in
      let one = read_type limits type [] in
      let p = read_given_members type c.args.pull.now.state given in
      let next = hears_said _ _ _ _ _ _ _ (ap (next_at (place c.loop-items.pull.state)) c.in-Some.is)
      (c.in_ok-_next.ensures.reads i.fine) in
      let stands = c.in_ok-_next.ensures.stands i.none_given
      ∙ ap (λ z. after_next c.next_tag.new.self.state.taken z c.loop-items.pull.state) c.in-Some.is in
      let new-given : Given =
      record { at = c.loop-items.pull.state.taken; tag = c.in-Some._next.0; constructed = c.in-Some._next.1 } in
      let read = c.in_ok-item.ensures.reads new-given (search rules) (ap (λ z. z.given) stands) in
      let member = member_reads
      (λ l. read_type l type [])
      limits c.loop-items.pull c.next_tag.new.self c.read.new.pull c.in-Some._next.0 c.in-Some._next.1
      (Said read.0) i.none_given i.limits stands read.2 in
      let fits =
      subst (λ o. IfSome o (λ t. IsGiven t.0 c.next_tag.new.self.state)) c.in-Some.is c.in_ok-_next.ensures.fits in
      let same-limits : c.next_tag.new.self.state.limits ≡ limits = ap (λ z. z.limits) stands ∙ i.limits in
      let below : limits.octets ≤ 2147483647 = omega (arith, fits.octets_fit, ap (λ z. z.octets) same-limits) in
      let short = element_short limits type (enclosing c.loop-items.pull.state)
      (place c.loop-items.pull.state) c.in-Some._next.0 c.in-Some._next.1 read.0 _ _ _ _ _ _ below
      (inside_here one p c.args.pull.now c.loop-items.pull before.0 i c.next_tag.new.self _ next) member in
      let more = inside_more one p c.args.pull.now c.loop-items.pull before.0 i c.next_tag.new.self c.read.new.pull
      (place c.loop-items.pull.state)
      c.in-Some._next.0 c.in-Some._next.1 read.0 next c.in_ok-_next.ensures.frame.same_source stands
      (search rules) member c.in_ok-item.ensures.frame.same_source c.in_ok-item.ensures.stands
      (search rules) c.in_ok-item.ensures.frame.onward.forward short below in
      let kept : map g.T.DerText.value c.keep.new.items.items
      ≡ map g.T.DerText.value c.loop-items.items.items ++ g.T.DerText.value c.in_ok-item.item ∷ [] = ap
      (map g.T.DerText.value) c.in_ok-keep.ensures.kept
      ∙ map_last g.T.DerText.value c.loop-items.items.items c.in_ok-item.item in (
        before.0 ++ read.0 ∷ [],
        subst (λ z. Each Same (before.0 ++ read.0 ∷ []) z) (sym kept) (each_last before.0 _ read.0 _ before.1 read.1),
        subst (λ z. Inside one p c.args.pull.now z (before.0 ++ read.0 ∷ [])) (sym c.in_ok-keep.ensures.still) more,
      ),
)

pub leave-requires : goal.leave-requires
leave-requires g c = λ fine none.
    let given = some_given c.args.pull.now.state.given (c.requires c.loop-items.invariant.6) in
    let i = (c.loop-items.invariant.7 given.0 given.1).2 in
    still_open c.loop-items.pull.state c.next_tag.new.self.state i.container c.args.pull.now.state.containers
    c.next_tag.new.self.state.taken i.containers
    (c.in_ok-_next.ensures.stands i.none_given
    ∙ ap (λ z. after_next c.next_tag.new.self.state.taken z c.loop-items.pull.state) c.in_default.is) none

pub returns-clause-reads : goal.returns-clause-reads
returns-clause-reads g c = λ given fine is.
    let before = c.loop-items.invariant.7 given is in
    let i = before.2 in
    let type = g.T.Element.type_term in
    let one = read_type c.args.pull.now.state.limits type [] in
    let next = hears_said _ _ _ _ _ _ _ (ap (next_at (place c.loop-items.pull.state)) c.in_default.is)
    (c.in_ok-_next.ensures.reads i.fine) in
    let end = c.in_ok-_next.ensures.ends i.none_given c.in_default.is in
    let done = c.in_ok-leave.ensures.ended (search rules) end in
    let at : c.loop-items.at ≡ place c.loop-items.pull.state =
    c.loop-items.invariant.0 ∙ sym (place_taken c.loop-items.pull.state i.none_given) in (
      before.0,
      before.1,
      hears_at _ _ _ _ _ _ _ _ (ap (λ z. z.taken) done.2) (ap g.R.Source.remaining done.1)
          (hears_said _ _ _ _ _ _ _ (ap (ended before.0) (sym at))
          (inside_ends one _ c.args.pull.now c.loop-items.pull before.0 i c.next_tag.new.self
          (place c.loop-items.pull.state) next)),
    )

pub returns-clause-short : goal.returns-clause-short
returns-clause-short g c =
    let given = some_given c.args.pull.now.state.given (c.requires c.loop-items.invariant.6) in
    let before = c.loop-items.invariant.7 given.0 given.1 in
    let i = before.2 in
    let e = ap length (each_texts before.0 (map g.T.DerText.value c.loop-items.items.items) before.1) in
    omega (arith, i.below)

pub returns-clause-stands : goal.returns-clause-stands
returns-clause-stands g c =
    let given = some_given c.args.pull.now.state.given (c.requires c.loop-items.invariant.6) in
    let i = (c.loop-items.invariant.7 given.0 given.1).2 in
    let stands = c.in_ok-_next.ensures.stands i.none_given
    ∙ ap (λ z. after_next c.next_tag.new.self.state.taken z c.loop-items.pull.state) c.in_default.is in
    let done =
    (c.in_ok-leave.ensures.ended (search rules) (c.in_ok-_next.ensures.ends i.none_given c.in_default.is)).2 in
    all_used c.leave.new.self.state c.args.pull.now.state
    (ap (λ z. z.limits) done ∙ (ap (λ z. z.limits) stands ∙ i.limits))
    (ap (λ z. z.given) done ∙ (ap (λ z. z.given) stands ∙ i.none_given))
    (left c.loop-items.pull.state c.next_tag.new.self.state c.leave.new.self.state i.container
    c.args.pull.now.state.containers c.next_tag.new.self.state.taken i.containers stands done)
    (ap (λ z. z.error) done ∙ (ap (λ z. z.error) stands ∙ (i.fine ∙ sym c.loop-items.invariant.6)))
