use Rattle.std.proofs.Common.{rules, ◌∙◌, ◌++◌, Bool, None, Some, ap, false, length, refl, subst, sym, true}
use lib.Dec.{eqb}
use lib.Pointwise.{pointwise}
use Rattle.tlv_core.specs.Header.{der_header}
use Rattle.tlv_core.specs.Identifier.{Tag}
use Rattle.x690.specs.Reads.{Said}
use Rattle.x690.specs.TypeTerms.{LeafType}
use Rattle.x690.specs.Values.{Leaf}
use Rattle.x690_laws.proofs.LengthsOfTexts.{der_leaf}
use Rattle.x690_laws.proofs.ReadingLayoutsSound.{same_tag_is}
use Rattle.ber_pull.specs.Hears.{heard_error, next_at}
use Rattle.ber_pull.specs.declared.state.Given.{Given}
use Rattle.ber_pull.proofs.Hearing.{hears_done, hears_error, hears_then}
use Rattle.asn_fields.specs.Fields.{next_of}
use Rattle.asn_fields.specs.Insides.{Inside}
use Rattle.asn_fields.proofs.FieldAnswers.{with_error}
use Rattle.asn_fields.proofs.FieldReadings.{optional_absent, optional_other, optional_read}
use Rattle.asn_fields.proofs.Insides.{field_given, stands_some, used_within}
use Rattle.pkix_shapes.specs.Terms.{kind_of, tag_of}
use Rattle.asn_names.proofs.ShapeDefaults.{but_this_leaf, default_put, leaf_as, leaf_fits, nothing_put, one_put}
use Rattle.asn_names.proofs.ShapeReadings.{ok_so}
use Rattle.asn_names.proofs.shaped.append_default.Goals as goal

pub returns-in_default-clause-reads : goal.returns-in_default-clause-reads
returns-in_default-clause-reads g c = λ earlier outer inside a.
    let type = LeafType (tag_of c.args.leaf.own) (kind_of c.args.leaf.contents) in (
      None,
      nothing_put _ None refl,
      optional_absent outer.limits type earlier inside c.args.next.now.at c.args.next.now.tag _ _ c.in_default.is,
    )

pub returns-then-not-is-clause-reads : goal.returns-then-not-is-clause-reads
returns-then-not-is-clause-reads g c = λ earlier outer inside a.
    let own = tag_of c.args.leaf.own in
    let kind = kind_of c.args.leaf.contents in (
      None,
      nothing_put _ None refl,
      optional_other outer.limits (LeafType own kind) earlier inside c.args.next.now.at c.args.next.now.tag
          (c.in-Some.tag, c.in-Some.field-0-1) _ _ c.in-Some.is
          (sym (leaf_fits own kind c.in-Some.tag) ∙ (sym c.is.ensures ∙ c.if-not-is.true)),
    )

pub returns-in_err-read_leaf_into-clause-reads : goal.returns-in_err-read_leaf_into-clause-reads
returns-in_err-read_leaf_into-clause-reads g c = λ earlier outer inside a.
    let own = tag_of c.args.leaf.own in
    let kind = kind_of c.args.leaf.contents in
    let s = c.args.pull.now.state in
    let at = c.args.next.now.at in
    let n = c.args.next.now.tag in
    let t : Tag × Bool = (c.in-Some.tag, c.in-Some.field-0-1) in
    let given : Given = record { at = at; tag = c.in-Some.tag; constructed = c.in-Some.field-0-1 } in
    let is = field_given outer inside s at n t a c.in-Some.is in
    let on = sym c.is.ensures ∙ c.if-not-is.false in
    let fits = sym (leaf_fits own kind c.in-Some.tag) ∙ on in
    let e = c.in_err-read_leaf_into.field-0.0 in
    with_error _ _ c.from_residual.result e (search rules)
    (optional_read outer.limits (LeafType own kind) earlier inside at n t (heard_error e) _ _ _ _ c.in-Some.is fits
    (hears_error _ _ e _ _ _ _
    (leaf_as outer inside own kind _ s at n t earlier (heard_error e) _ _ _ _ a on c.simple_type.ensures
    (c.in_err-read_leaf_into.ensures.reads own given c.requires.fine is))))

pub returns-in_err-next-clause-reads : goal.returns-in_err-next-clause-reads
returns-in_err-next-clause-reads g c = λ earlier outer inside a.
    let own = tag_of c.args.leaf.own in
    let kind = kind_of c.args.leaf.contents in
    let s = c.args.pull.now.state in
    let at = c.args.next.now.at in
    let n = c.args.next.now.tag in
    let t : Tag × Bool = (c.in-Some.tag, c.in-Some.field-0-1) in
    let given : Given = record { at = at; tag = c.in-Some.tag; constructed = c.in-Some.field-0-1 } in
    let is = field_given outer inside s at n t a c.in-Some.is in
    let on = sym c.is.ensures ∙ c.if-not-is.false in
    let fits = sym (leaf_fits own kind c.in-Some.tag) ∙ on in
    let contents = c.read_leaf_into.new.contents.items in
    let v = Leaf own contents in
    let read = leaf_as outer inside own kind _ s at n t earlier (Said v) _ _ _ _ a on c.simple_type.ensures
    (c.in_ok-read_leaf_into.ensures.reads own given c.requires.fine is) in
    let within = used_within outer inside s (next_at at n) c.read_leaf_into.new.pull.state a
    (stands_some at n t c.in-Some.is) c.in_ok-read_leaf_into.ensures.stands in
    let e = c.in_err-next.field-0.0 in
    with_error _ _ c.from_residual-in_err-next.result e (search rules)
    (optional_read outer.limits (LeafType own kind) earlier inside at n t (heard_error e) _ _ _ _ c.in-Some.is fits
    (hears_then _ _ v _ _ _ _ _ _ _ read
    (hears_error _ _ e _ _ _ _ (c.in_err-next.ensures.reads outer inside within))))

pub returns-then-eq-clause-reads : goal.returns-then-eq-clause-reads
returns-then-eq-clause-reads g c = λ earlier outer inside a.
    let own = tag_of c.args.leaf.own in
    let kind = kind_of c.args.leaf.contents in
    let s = c.args.pull.now.state in
    let at = c.args.next.now.at in
    let n = c.args.next.now.tag in
    let t : Tag × Bool = (c.in-Some.tag, c.in-Some.field-0-1) in
    let given : Given = record { at = at; tag = c.in-Some.tag; constructed = c.in-Some.field-0-1 } in
    let is = field_given outer inside s at n t a c.in-Some.is in
    let on = sym c.is.ensures ∙ c.if-not-is.false in
    let fits = sym (leaf_fits own kind c.in-Some.tag) ∙ on in
    let contents = c.read_leaf_into.new.contents.items in
    let v = Leaf own contents in
    let read = leaf_as outer inside own kind _ s at n t earlier (Said v) _ _ _ _ a on c.simple_type.ensures
    (c.in_ok-read_leaf_into.ensures.reads own given c.requires.fine is) in
    let within = used_within outer inside s (next_at at n) c.read_leaf_into.new.pull.state a
    (stands_some at n t c.in-Some.is) c.in_ok-read_leaf_into.ensures.stands in
    let next = next_of c.in_ok-next.field-0 in
    let both =
    optional_read outer.limits (LeafType own kind) earlier inside at n t (Said (Some v, next)) _ _ _ _ c.in-Some.is fits
    (hears_then _ _ v _ _ _ _ _ _ _ read
    (hears_then _ _ next _ _ _ _ _ _ _ (c.in_ok-next.ensures.reads outer inside within) (hears_done _ _ _))) in
    let default = c.args.leaf.default.now in (
      Some v,
      nothing_put _ _
          (but_this_leaf own contents default true
          (sym c.if-eq.true
          ∙ (c.eq.ensures ∙ ap (λ z. pointwise eqb z default) c.as_slice.ensures.value))),
      both,
    )

pub returns-clause-reads : goal.returns-clause-reads
returns-clause-reads g c = λ earlier outer inside a.
    let own = tag_of c.args.leaf.own in
    let kind = kind_of c.args.leaf.contents in
    let s = c.args.pull.now.state in
    let at = c.args.next.now.at in
    let n = c.args.next.now.tag in
    let t : Tag × Bool = (c.in-Some.tag, c.in-Some.field-0-1) in
    let given : Given = record { at = at; tag = c.in-Some.tag; constructed = c.in-Some.field-0-1 } in
    let is = field_given outer inside s at n t a c.in-Some.is in
    let on = sym c.is.ensures ∙ c.if-not-is.false in
    let fits = sym (leaf_fits own kind c.in-Some.tag) ∙ on in
    let contents = c.read_leaf_into.new.contents.items in
    let v = Leaf own contents in
    let read = leaf_as outer inside own kind _ s at n t earlier (Said v) _ _ _ _ a on c.simple_type.ensures
    (c.in_ok-read_leaf_into.ensures.reads own given c.requires.fine is) in
    let within = used_within outer inside s (next_at at n) c.read_leaf_into.new.pull.state a
    (stands_some at n t c.in-Some.is) c.in_ok-read_leaf_into.ensures.stands in
    let next = next_of c.in_ok-next.field-0 in
    let both =
    optional_read outer.limits (LeafType own kind) earlier inside at n t (Said (Some v, next)) _ _ _ _ c.in-Some.is fits
    (hears_then _ _ v _ _ _ _ _ _ _ read
    (hears_then _ _ next _ _ _ _ _ _ _ (c.in_ok-next.ensures.reads outer inside within) (hears_done _ _ _))) in
    let default = c.args.leaf.default.now in
    let before = c.args.text.now.items in
    let tag = c.in-Some.tag in
    default_put own default c.args.pull.now c.ahead.new.pull c.append_element.new.pull _ (Some v) next before _
    c.append_element.result both
    (ok_so c.append_element.result c.append_element.ensures.put
    (λ put.
    put
    ∙ (ap (λ z. before ++ z)
    (ap (λ z. der_header tag false (length z) ++ z) c.deref.ensures.value
    ∙ (ap (λ z. der_header z false (length contents) ++ contents) (sym (same_tag_is own tag on))
    ∙ sym (der_leaf own contents)))
    ∙ one_put before _ v
    (but_this_leaf own contents default false
    (sym c.if-eq.false
    ∙ (c.eq.ensures ∙ ap (λ z. pointwise eqb z default) c.as_slice.ensures.value))))))
    c.append_element.ensures.still
    c.append_element.ensures.stops

pub returns-then-eq-clause-stands : goal.returns-then-eq-clause-stands
returns-then-eq-clause-stands g c = λ outer inside a.
    let s = c.args.pull.now.state in
    let at = c.args.next.now.at in
    let n = c.args.next.now.tag in
    let t : Tag × Bool = (c.in-Some.tag, c.in-Some.field-0-1) in
    c.in_ok-next.ensures.stands outer inside
    (used_within outer inside s (next_at at n) c.read_leaf_into.new.pull.state a (stands_some at n t c.in-Some.is)
    c.in_ok-read_leaf_into.ensures.stands)

pub returns-clause-stands : goal.returns-clause-stands
returns-clause-stands g c =
    let s = c.args.pull.now.state in
    let at = c.args.next.now.at in
    let n = c.args.next.now.tag in
    let t : Tag × Bool = (c.in-Some.tag, c.in-Some.field-0-1) in
    ok_so c.append_element.result c.append_element.ensures.still
    (λ still outer inside a.
    subst (λ z. Inside outer inside z.state (next_of c.in_ok-next.field-0)) (sym still)
    (c.in_ok-next.ensures.stands outer inside
    (used_within outer inside s (next_at at n) c.read_leaf_into.new.pull.state a (stands_some at n t c.in-Some.is)
    c.in_ok-read_leaf_into.ensures.stands)))
