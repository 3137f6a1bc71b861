use Rattle.std.proofs.Common.{rules, arith, ◌≡◌, ◌∙◌, ◌+◌, ◌-◌, ◌≤◌, Some, ap, length, subst, sym}
use Rattle.tlv_core.specs.Identifier.{identifier}
use Rattle.ber_pull.specs.Standing.{after_next}
use Rattle.ber_outline.specs.Steps.{Leads, StopsAt}
use Rattle.ber_outline.specs.declared.event.Event.TheVariants.{Begin, End, Primitive}
use Rattle.ber_outline.proofs.Steps.{after_within, begin_leads, element_said, end_leads, end_said, enter_errs, header_is, next_errs, place_is, primitive_errs, primitive_leads, still_some}
use Rattle.ber_outline.proofs.next.next_event.Goals as goal

pub leave-requires : goal.leave-requires
leave-requires c = λ fine is.
    let r = c.requires.ready in
    let s = c.args.pull.now.state in
    let m = c.next_tag.new.self in
    let none = r.reading.none_given in
    let mid = c.in-Ok-None.ensures.stands none ∙ ap (λ z. after_next m.state.taken z s) c.in-Ok-None.field-0-is in
    still_some c.args.document.now s c.args.pull.now.src.now.now r m.state m.state m.src.now.now
    (end_said s c.in-Ok-None.field-0 _ _ _ none c.in-Ok-None.field-0-is (c.in-Ok-None.ensures.reads r.reading.fine)) mid
    is

pub returns-in-Ok-None : goal.returns-in-Ok-None
returns-in-Ok-None c =
    let r = c.requires.ready in
    let s = c.args.pull.now.state in
    let m = c.next_tag.new.self in
    let l = c.leave.new.self in
    let none = r.reading.none_given in
    let mid = c.in-Ok-None.ensures.stands none ∙ ap (λ z. after_next m.state.taken z s) c.in-Ok-None.field-0-is in
    let fine = ap (λ z. z.error) mid ∙ r.reading.fine in
    let done = c.leave.ensures.ended fine (c.in-Ok-None.ensures.ends none c.in-Ok-None.field-0-is) in
    subst (λ o. Leads c.args.document.now (End c.at-at.result) s c.args.pull.now.src.now.now l.state o.now) (sym done.1)
    (end_leads c.args.document.now s c.args.pull.now.src.now.now r m.state l.state m.src.now.now
    (end_said s c.in-Ok-None.field-0 _ _ _ none c.in-Ok-None.field-0-is (c.in-Ok-None.ensures.reads r.reading.fine)) mid
    done.2 (ap (λ z. z.error) done.2 ∙ fine) c.at-at.result (place_is s c.at-at.result none c.at-at.ensures.value))

pub returns-in-Err : goal.returns-in-Err
returns-in-Err c =
    let r = c.requires.ready in
    next_errs c.args.document.now c.args.pull.now.state c.args.pull.now.src.now.now r c.in-Err.error
    c.next_tag.new.self.state.taken c.next_tag.new.self.src.now.now
    (c.in-Err.ensures.reads r.reading.fine) (c.in-Err.ensures.frame.read r.reading.fine)

pub header_at-header-requires : goal.header_at-header-requires
header_at-header-requires c =
    let r = c.requires.ready in
    let s = c.args.pull.now.state in
    let m = c.next_tag.new.self in
    let t = c.in-Ok-Some.next in
    let none = r.reading.none_given in
    let at = place_is s c.at-at.result none c.at-at.ensures.value in
    let mid = c.in-Ok-Some.ensures.stands none ∙ ap (λ z. after_next m.state.taken z s) c.in-Ok-Some.field-0-is in
    subst (λ p. p + length (identifier t.0 t.1) ≤ length c.args.document.now) (sym at)
    (after_within c.args.document.now s c.args.pull.now.src.now.now r t.0 t.1 m.state m.src.now.now
    (element_said s t.0 t.1 c.in-Ok-Some.field-0 _ _ _ none c.in-Ok-Some.field-0-is
    (c.in-Ok-Some.ensures.reads r.reading.fine)) mid (c.in-Ok-Some.ensures.advances none (search rules)))

pub returns-in-Ok : goal.returns-in-Ok
returns-in-Ok c =
    let r = c.requires.ready in
    let s = c.args.pull.now.state in
    let m = c.next_tag.new.self in
    let n = c.enter.new.self in
    let t = c.in-Ok-Some.next in
    let none = r.reading.none_given in
    let at = place_is s c.at-at.result none c.at-at.ensures.value in
    let mid = c.in-Ok-Some.ensures.stands none ∙ ap (λ z. after_next m.state.taken z s) c.in-Ok-Some.field-0-is in
    let next = element_said s t.0 t.1 c.in-Ok-Some.field-0 _ _ _ none c.in-Ok-Some.field-0-is
    (c.in-Ok-Some.ensures.reads r.reading.fine) in
    let further = c.in-Ok-Some.ensures.advances none (search rules) in
    let opens = c.in-Ok.ensures.stands in
    let reads = c.in-Ok.ensures.reads (record { at = s.taken; tag = t.0; constructed = t.1 })
    (ap (λ z. z.error) mid ∙ r.reading.fine) (ap (λ z. z.given) mid) in
    subst (λ h. Leads c.args.document.now (Begin h c.at.result) s c.args.pull.now.src.now.now n.state n.src.now.now)
    (sym (c.header_at-header.ensures
    ∙ header_is c.args.document.now s c.args.pull.now.src.now.now r t.0 t.1 m.state m.src.now.now next mid further
    c.at-at.result c.args.depth at c.requires.depth))
    (begin_leads c.args.document.now s c.args.pull.now.src.now.now r t.0 t.1 m.state m.src.now.now next mid further
    n.state n.src.now.now c.at.result opens.0 c.if-constructed.true reads (c.in-Ok.ensures.frame.keeps.0) opens.1
    (place_is n.state c.at.result (ap (λ z. z.given) opens.1) c.at.ensures.value))

pub returns-in-Err-enter : goal.returns-in-Err-enter
returns-in-Err-enter c =
    let r = c.requires.ready in
    let s = c.args.pull.now.state in
    let m = c.next_tag.new.self in
    let n = c.enter.new.self in
    let t = c.in-Ok-Some.next in
    let none = r.reading.none_given in
    let at = place_is s c.at-at.result none c.at-at.ensures.value in
    let mid = c.in-Ok-Some.ensures.stands none ∙ ap (λ z. after_next m.state.taken z s) c.in-Ok-Some.field-0-is in
    let next = element_said s t.0 t.1 c.in-Ok-Some.field-0 _ _ _ none c.in-Ok-Some.field-0-is
    (c.in-Ok-Some.ensures.reads r.reading.fine) in
    let further = c.in-Ok-Some.ensures.advances none (search rules) in
    let fine = ap (λ z. z.error) mid ∙ r.reading.fine in
    subst (λ h. StopsAt c.in-Err-enter.error (Some h) s c.args.pull.now.src.now.now)
    (sym (c.header_at-header.ensures
    ∙ header_is c.args.document.now s c.args.pull.now.src.now.now r t.0 t.1 m.state m.src.now.now next mid further
    c.at-at.result c.args.depth at c.requires.depth))
    (enter_errs c.args.document.now s c.args.pull.now.src.now.now r t.0 t.1 m.state m.src.now.now next mid further
    c.in-Err-enter.error n.state.taken n.src.now.now c.if-constructed.true
    (c.in-Err-enter.ensures.reads (record { at = s.taken; tag = t.0; constructed = t.1 }) fine (ap (λ z. z.given) mid))
    (c.in-Err-enter.ensures.frame.read fine))

pub returns-in-Ok-primitive_into : goal.returns-in-Ok-primitive_into
returns-in-Ok-primitive_into c =
    let r = c.requires.ready in
    let s = c.args.pull.now.state in
    let m = c.next_tag.new.self in
    let n = c.primitive_into.new.self in
    let t = c.in-Ok-Some.next in
    let none = r.reading.none_given in
    let at = place_is s c.at-at.result none c.at-at.ensures.value in
    let mid = c.in-Ok-Some.ensures.stands none ∙ ap (λ z. after_next m.state.taken z s) c.in-Ok-Some.field-0-is in
    let next = element_said s t.0 t.1 c.in-Ok-Some.field-0 _ _ _ none c.in-Ok-Some.field-0-is
    (c.in-Ok-Some.ensures.reads r.reading.fine) in
    let further = c.in-Ok-Some.ensures.advances none (search rules) in
    let fine = ap (λ z. z.error) mid ∙ r.reading.fine in
    let uses = c.in-Ok-primitive_into.ensures.stands in
    let counted : c.len.result ≡ length c.primitive_into.new.octets.items = search rules in
    let begins : c.saturating_sub-begin.result ≡ c.at-end.result - length c.primitive_into.new.octets.items =
    omega (arith, counted, c.saturating_sub-begin.ensures) in
    subst (λ h. Leads c.args.document.now (Primitive h c.saturating_sub-begin.result c.at-end.result) s
    c.args.pull.now.src.now.now n.state n.src.now.now)
    (sym (c.header_at-header.ensures
    ∙ header_is c.args.document.now s c.args.pull.now.src.now.now r t.0 t.1 m.state m.src.now.now next mid further
    c.at-at.result c.args.depth at c.requires.depth))
    (primitive_leads c.args.document.now s c.args.pull.now.src.now.now r t.0 t.1 m.state m.src.now.now next mid further
    c.primitive_into.new.octets.items n.state n.src.now.now c.saturating_sub-begin.result c.at-end.result
    c.if-constructed.false
    (c.in-Ok-primitive_into.ensures.reads (record { at = s.taken; tag = t.0; constructed = t.1 }) fine
    (ap (λ z. z.given) mid)) (c.in-Ok-primitive_into.ensures.frame.keeps.0) uses
    (place_is n.state c.at-end.result (ap (λ z. z.given) uses) c.at-end.ensures.value) begins)

pub returns-in-Err-primitive_into : goal.returns-in-Err-primitive_into
returns-in-Err-primitive_into c =
    let r = c.requires.ready in
    let s = c.args.pull.now.state in
    let m = c.next_tag.new.self in
    let n = c.primitive_into.new.self in
    let t = c.in-Ok-Some.next in
    let none = r.reading.none_given in
    let at = place_is s c.at-at.result none c.at-at.ensures.value in
    let mid = c.in-Ok-Some.ensures.stands none ∙ ap (λ z. after_next m.state.taken z s) c.in-Ok-Some.field-0-is in
    let next = element_said s t.0 t.1 c.in-Ok-Some.field-0 _ _ _ none c.in-Ok-Some.field-0-is
    (c.in-Ok-Some.ensures.reads r.reading.fine) in
    let further = c.in-Ok-Some.ensures.advances none (search rules) in
    let fine = ap (λ z. z.error) mid ∙ r.reading.fine in
    subst (λ h. StopsAt c.in-Err-primitive_into.error (Some h) s c.args.pull.now.src.now.now)
    (sym (c.header_at-header.ensures
    ∙ header_is c.args.document.now s c.args.pull.now.src.now.now r t.0 t.1 m.state m.src.now.now next mid further
    c.at-at.result c.args.depth at c.requires.depth))
    (primitive_errs c.args.document.now s c.args.pull.now.src.now.now r t.0 t.1 m.state m.src.now.now next mid further
    c.in-Err-primitive_into.error n.state.taken n.src.now.now c.if-constructed.false
    (c.in-Err-primitive_into.ensures.reads (record { at = s.taken; tag = t.0; constructed = t.1 }) fine
    (ap (λ z. z.given) mid))
    (c.in-Err-primitive_into.ensures.frame.read fine))
