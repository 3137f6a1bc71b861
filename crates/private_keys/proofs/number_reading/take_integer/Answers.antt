use Rattle.std.proofs.Common.{◌∙◌, ◌<◌, ◌^◌, Bool, [], ap, length, subst, sym}
use Rattle.tlv_core.specs.Identifier.{Tag}
use Rattle.tlv_core.specs.declared.reason.Reason.TheVariants.{Missing, WrongTag}
use Rattle.x690.specs.Contents.{Integer}
use Rattle.x690.specs.DerTexts.{der}
use Rattle.x690.specs.Layouts.{universal}
use Rattle.x690.specs.Points.{fault}
use Rattle.x690.specs.UniversalTypes.{integer}
use Rattle.ber_pull.specs.Hears.{next_at}
use Rattle.ber_pull.specs.declared.state.Given.{Given}
use Rattle.ber_pull.proofs.Hearing.{hears_stop}
use Rattle.asn_fields.specs.Fields.{next_of}
use Rattle.asn_fields.specs.Insides.{BeginsBefore}
use Rattle.asn_fields.proofs.Dependents.{there_as}
use Rattle.asn_fields.proofs.FieldAnswers.{of_value}
use Rattle.asn_fields.proofs.FieldReadings.{take_missing, take_read, take_wrong}
use Rattle.asn_fields.proofs.Insides.{field_given}
use Rattle.asn_fields.proofs.ShortFields.{field_short}
use Rattle.private_keys.specs.RsaNumbers.{integer_value}
use Rattle.private_keys.proofs.NumberReading.{leaf_reads, value_heard}
use Rattle.private_keys.proofs.number_reading.take_integer.Goals as goal

pub returns-in-None-clause-reads : goal.returns-in-None-clause-reads
returns-in-None-clause-reads g c = λ fields outer inside a.
    let first = c.refuse.ensures.first c.requires.fine in
    hears_stop _ (fault c.args.next.at Missing) _ _ _ _ _ _ _ first.0 (ap (λ s. s.taken) first.1)
    (ap g.R.Source.remaining c.refuse.ensures.same)
    (take_missing outer.limits _ fields inside c.args.next.at c.args.next.tag _ _ c.in-None.is)

pub returns-then-not-fits-clause-reads : goal.returns-then-not-fits-clause-reads
returns-then-not-fits-clause-reads g c = λ fields outer inside a.
    let first = c.refuse-then-not-fits.ensures.first c.requires.fine in
    hears_stop _ (fault c.args.next.at WrongTag) _ _ _ _ _ _ _ first.0 (ap (λ s. s.taken) first.1)
    (ap g.R.Source.remaining c.refuse-then-not-fits.ensures.same)
    (take_wrong outer.limits _ fields inside c.args.next.at c.args.next.tag
    (c.in-Some.tag, c.in-Some.field-0-1) _ _ c.in-Some.is (sym c.fits-fits.ensures ∙ c.if-not-fits.true))

pub returns-clause-reads : goal.returns-clause-reads
returns-clause-reads g c = λ fields outer inside a.
    let s = c.args.pull.now.state in
    let at = c.args.next.at in
    let t : Tag × Bool = (c.in-Some.tag, c.in-Some.field-0-1) in
    let given : Given = record { at = at; tag = c.in-Some.tag; constructed = c.in-Some.field-0-1 } in
    let is = field_given outer inside s at c.args.next.tag t a c.in-Some.is in
    let on = sym c.fits-fits.ensures ∙ c.if-not-fits.false in
    value_heard c.read_leaf_into.result (λ _. integer_value c.read_leaf_into.new.contents.items) _ _ _ _ _
    (take_read outer.limits integer fields inside at c.args.next.tag t _ _ _ _ _ c.in-Some.is on
    (there_as outer inside s (next_of c.args.next) integer fields at c.in-Some.tag c.in-Some.field-0-1 _ _ _ _ _ a
    (leaf_reads (universal 2) Integer fields s given _ _ _ _ _ on
    (c.read_leaf_into.ensures.reads (universal 2) given c.requires.fine is))))

pub returns-clause-short : goal.returns-clause-short
returns-clause-short g c =
    let a = c.requires.inside.2 in
    let s = c.args.pull.now.state in
    let at = c.args.next.at in
    let t : Tag × Bool = (c.in-Some.tag, c.in-Some.field-0-1) in
    let given : Given = record { at = at; tag = c.in-Some.tag; constructed = c.in-Some.field-0-1 } in
    let is = field_given c.requires.inside.0 c.requires.inside.1 s at c.args.next.tag t a c.in-Some.is in
    let on = sym c.fits-fits.ensures ∙ c.if-not-fits.false in
    let v = integer_value c.read_leaf_into.new.contents.items in
    of_value c.read_leaf_into.result (λ _. v) _ _ _ _ _ (λ _. length (der v) < 2 ^ 32)
    (λ x w same h. field_short integer [] s at c.in-Some.tag c.in-Some.field-0-1 w v _ _ _
    (subst (λ z. BeginsBefore s (next_at at z)) c.in-Some.is a.begins)
    (leaf_reads (universal 2) Integer [] s given _ _ _ _ _ on h) same)
    (value_heard c.read_leaf_into.result (λ _. v) _ _ _ _ _
    (c.read_leaf_into.ensures.reads (universal 2) given c.requires.fine is))
