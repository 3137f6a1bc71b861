use Rattle.std.proofs.Common.{rules}
use Rattle.x690.specs.TypeTerms.{LeafType}
use Rattle.x690.specs.Values.{Leaf}
use Rattle.x690_laws.proofs.ValuesSame.{equivalence}
use Rattle.ber_pull.proofs.Hearing.{hears_as}
use Rattle.asn_elements.specs.Reading.{kind_of, read_given}
use Rattle.asn_elements.proofs.ReaderAnswers.{fine_still, given_still, value_err}
use Rattle.asn_elements.proofs.TypeReadings.{leaf_behind_tag, leaf_type_is}
use Rattle.asn_elements.proofs.leaf_reading.read_leaf_as.Goals as goal

pub returns-in_err-expect_tag-clause-reads : goal.returns-in_err-expect_tag-clause-reads
returns-in_err-expect_tag-clause-reads g c = λ given fine is.
    value_err c.args.pull.now c.expect_tag.new.pull
    (read_given (LeafType c.args.own (kind_of c.args.kind)) c.args.pull.now.state given)
    (λ v. Leaf c.args.own v.items) c.from_residual.result c.in_err-expect_tag.field-0.0 (search rules)
    (hears_as _ _ _ _ _ _ _ (leaf_type_is c.args.own (kind_of c.args.kind) c.args.pull.now.state given)
    (c.in_err-expect_tag.ensures.stops given fine is _))

pub returns-in_err-read_leaf_into-clause-reads : goal.returns-in_err-read_leaf_into-clause-reads
returns-in_err-read_leaf_into-clause-reads g c = λ given fine is.
    let old = c.args.pull.now in
    let mid = c.expect_tag.new.pull in
    let new = c.read_leaf_into.new.pull in
    let ok = c.in_ok-expect_tag.ensures in
    value_err old new
    (read_given (LeafType c.args.own (kind_of c.args.kind)) old.state given)
    (λ v. Leaf c.args.own v.items)
    c.from_residual-in_err-read_leaf_into.result c.in_err-read_leaf_into.field-0.0 (search rules)
    (leaf_behind_tag old mid new c.args.own (kind_of c.args.kind) given _ ok.same (ok.is given fine is).1
    (c.in_err-read_leaf_into.ensures.reads c.args.own given (fine_still old mid ok.same fine)
    (given_still old mid given ok.same is)))

pub returns-clause-reads : goal.returns-clause-reads
returns-clause-reads g c = λ given fine is.
    let old = c.args.pull.now in
    let mid = c.expect_tag.new.pull in
    let ok = c.in_ok-expect_tag.ensures in
    let v = Leaf c.args.own c.read_leaf_into.new.contents.items in (
      v,
      equivalence.same_refl v,
      leaf_behind_tag old mid c.read_leaf_into.new.pull c.args.own (kind_of c.args.kind) given _ ok.same
          (ok.is given fine is).1
          (c.in_ok-read_leaf_into.ensures.reads c.args.own given (fine_still old mid ok.same fine)
          (given_still old mid given ok.same is)),
    )
