use Rattle.std.proofs.Common.{rules, subst}
use Rattle.x690.specs.Reads.{Said}
use Rattle.x690.specs.TypeTerms.{LeafType}
use Rattle.x690.specs.Values.{Leaf}
use Rattle.x690_laws.proofs.LengthsOfTexts.{der_leaf}
use Rattle.ber_pull.specs.Hears.{heard_error}
use Rattle.ber_pull.specs.View.{Answers}
use Rattle.ber_pull.proofs.Hearing.{hears_as}
use Rattle.asn_elements.specs.Reading.{read_given}
use Rattle.asn_elements.proofs.ReaderAnswers.{fine_still, given_still}
use Rattle.asn_elements.proofs.TypeReadings.{leaf_behind_tag, leaf_type_is}
use Rattle.asn_open_values.proofs.OpenReadings.{text_err, text_put}
use Rattle.pkix_shapes.specs.Terms.{kind_of, tag_of}
use Rattle.asn_names.proofs.shaped.append_leaf.Goals as goal

pub returns-in_err-tag-clause-reads : goal.returns-in_err-tag-clause-reads
returns-in_err-tag-clause-reads g c = λ given fine is.
    let own = tag_of c.args.own in
    let kind = kind_of c.args.contents in
    text_err c.args.pull.now c.expect_own.new.pull (read_given (LeafType own kind) c.args.pull.now.state given) _ _
    c.from_residual.result c.in_err-tag.field-0.0 (search rules)
    (hears_as _ _ _ _ _ _ _ (leaf_type_is own kind c.args.pull.now.state given)
    (c.in_err-tag.ensures.stops given fine is _))

pub returns-in_err-read_leaf_into-clause-reads : goal.returns-in_err-read_leaf_into-clause-reads
returns-in_err-read_leaf_into-clause-reads g c = λ given fine is.
    let old = c.args.pull.now in
    let mid = c.expect_own.new.pull in
    let own = tag_of c.args.own in
    let still = c.in_ok-tag.ensures.same in
    let e = c.in_err-read_leaf_into.field-0.0 in
    let read = c.in_err-read_leaf_into.ensures.reads own given (fine_still old mid still fine)
    (given_still old mid given still is) in
    text_err old c.read_leaf_into.new.pull (read_given (LeafType own (kind_of c.args.contents)) old.state given) _ _
    c.from_residual-in_err-read_leaf_into.result e (search rules)
    (subst (λ k. Answers old c.read_leaf_into.new.pull (read_given (LeafType own k) old.state given) (heard_error e))
    c.simple_type.ensures
    (leaf_behind_tag old mid c.read_leaf_into.new.pull own _ given (heard_error e) still
    (c.in_ok-tag.ensures.is given fine is) read))

pub returns-clause-reads : goal.returns-clause-reads
returns-clause-reads g c = λ given fine is.
    let old = c.args.pull.now in
    let mid = c.expect_own.new.pull in
    let own = tag_of c.args.own in
    let still = c.in_ok-tag.ensures.same in
    let v = Leaf own c.read_leaf_into.new.contents.items in
    let read = c.in_ok-read_leaf_into.ensures.reads own given (fine_still old mid still fine)
    (given_still old mid given still is) in
    text_put old c.read_leaf_into.new.pull c.append_element.new.pull
    (read_given (LeafType own (kind_of c.args.contents)) old.state given) v _ _ _
    (subst (λ k. Answers old c.read_leaf_into.new.pull (read_given (LeafType own k) old.state given) (Said v))
    c.simple_type.ensures
    (leaf_behind_tag old mid c.read_leaf_into.new.pull own _ given (Said v) still
    (c.in_ok-tag.ensures.is given fine is) read))
    (rw (der_leaf own c.read_leaf_into.new.contents.items, ← c.in_ok-tag.ensures.own) (search rules))
    c.append_element.ensures.still
    c.append_element.ensures.stops
