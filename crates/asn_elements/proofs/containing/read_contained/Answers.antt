use Rattle.std.proofs.Common.{rules, ◌∙◌, ap, subst}
use Rattle.x690.specs.Contents.{OctetString}
use Rattle.ber_pull.specs.Standing.{enclosing}
use Rattle.ber_pull.proofs.AtHand.{primitive_there}
use Rattle.asn_elements.specs.Reading.{read_given_leaf}
use Rattle.asn_elements.proofs.ReaderAnswers.{fine_still, given_still, unmoved_answers, value_err}
use Rattle.asn_elements.specs.Contained.{CameInside, read_given_contained}
use Rattle.asn_elements.proofs.Contained.{contained_stops, octets_at_hand, settled_still, settles}
use Rattle.asn_elements.proofs.containing.read_contained.Goals as goal

pub returns-in-Some-clause-reads : goal.returns-in-Some-clause-reads
returns-in-Some-clause-reads g c = λ earlier given fine is.
    let old = c.args.pull.now in
    let mid = c.expect_tag.new.pull in
    let passed = c.pass_contents.new.self in
    let T = g.T.Element.type_term in
    let value = g.T.DerText.value in
    let same = c.in_ok-at.ensures.same in
    let ok = c.in_ok-at.ensures.is given fine is in
    let octets = c.in-Some.octets.now in
    let there = given_still old mid given same is in
    let hand = c.in-Some.ensures.are in
    let leaf = unmoved_answers (λ s. read_given_leaf OctetString c.args.own s given) old mid passed _ same
    (octets_at_hand c.args.own mid.state given octets _ _ _ _ (primitive_there mid.state _ octets given hand there)
    (c.pass_contents.ensures.reads given octets there hand)) in
    settles old passed c.settled.new.pull c.args.own T earlier given octets value c.settled.result g.met.T.Element.closed
    ok.1 leaf
    (settled_still passed c.settled.new.pull T old.state.limits c.limits-limits.result given.at c.in_ok-at.at octets
    value c.settled.result (c.limits-limits.ensures ∙ ap (λ s. s.limits) same.0) ok.0
    (c.settled.ensures.reads c.limits-limits.result octets c.read_whole-read.ensures.inside))

pub returns-in_err-read_leaf_into-clause-reads : goal.returns-in_err-read_leaf_into-clause-reads
returns-in_err-read_leaf_into-clause-reads g c = λ earlier given fine is.
    let old = c.args.pull.now in
    let mid = c.expect_tag.new.pull in
    let new = c.read_leaf_into.new.pull in
    let T = g.T.Element.type_term in
    let same = c.in_ok-at.ensures.same in
    let ok = c.in_ok-at.ensures.is given fine is in
    let leaf = unmoved_answers (λ s. read_given_leaf OctetString c.args.own s given) old mid new _ same
    (c.in_err-read_leaf_into.ensures.reads c.args.own given (fine_still old mid same fine)
    (given_still old mid given same is)) in
    value_err old new
    (read_given_contained c.args.own T earlier old.state given)
    g.T.DerText.value c.from_residual-in_err-read_leaf_into.result c.in_err-read_leaf_into.field-0.0
    (search rules)
    (contained_stops old.state.limits c.args.own T earlier
    (enclosing old.state) given.at given.tag given.constructed ok.1 c.in_err-read_leaf_into.field-0.0 _ _ _ _ leaf)

pub returns-clause-reads : goal.returns-clause-reads
returns-clause-reads g c = λ earlier given fine is.
    let old = c.args.pull.now in
    let mid = c.expect_tag.new.pull in
    let taken = c.read_leaf_into.new.pull in
    let T = g.T.Element.type_term in
    let value = g.T.DerText.value in
    let octets = c.read_leaf_into.new.contents.items in
    let same = c.in_ok-at.ensures.same in
    let ok = c.in_ok-at.ensures.is given fine is in
    let leaf = unmoved_answers (λ s. read_given_leaf OctetString c.args.own s given) old mid taken _ same
    (c.in_ok-read_leaf_into.ensures.reads c.args.own given (fine_still old mid same fine)
    (given_still old mid given same is)) in
    let came = subst (λ o. CameInside c.limits-limits.result T o value c.read_whole-read-2.result) c.deref.ensures.value
    c.read_whole-read-2.ensures.inside in
    settles old taken c.settled-2.new.pull c.args.own T earlier given octets value c.settled-2.result
    g.met.T.Element.closed ok.1 leaf
    (settled_still taken c.settled-2.new.pull T old.state.limits c.limits-limits.result given.at c.in_ok-at.at octets
    value c.settled-2.result (c.limits-limits.ensures ∙ ap (λ s. s.limits) same.0) ok.0
    (c.settled-2.ensures.reads c.limits-limits.result octets came))
