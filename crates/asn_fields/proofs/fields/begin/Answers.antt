use Rattle.std.proofs.Common.{rules, sym, ap, subst, ◌∙◌}
use Rattle.ber_pull.proofs.Hearing.{hears_done, hears_err, hears_error, hears_said, hears_then}
use Rattle.asn_fields.proofs.FieldReadings.{begin_in, begin_wrong}
use Rattle.asn_fields.proofs.Insides.{opens_within}
use Rattle.ber_pull.specs.Calls.{read_entering}
use Rattle.asn_fields.specs.Insides.{Inside}
use Rattle.ber_pull.specs.Standing.{enclosing, opening, used}
use Rattle.asn_elements.proofs.ReaderAnswers.{fine_still, given_still, unmoved_answers}
use Rattle.asn_fields.specs.Fields.{next_of}
use Rattle.asn_fields.proofs.fields.begin.Goals as goal

pub returns-in_err-expect_tag-clause-reads : goal.returns-in_err-expect_tag-clause-reads
returns-in_err-expect_tag-clause-reads g c = λ given fine is.
    hears_err _ _ c.from_residual.result c.in_err-expect_tag.field-0.0 _ _ _ _ (search rules)
    (begin_wrong _ _ _ _ _ _ _ _ _ _ _ (c.in_err-expect_tag.ensures.reads given fine is))

pub returns-in_err-enter-clause-reads : goal.returns-in_err-enter-clause-reads
unfolding read_entering
returns-in_err-enter-clause-reads g c = λ given fine is.
    let same = c.in_ok-expect_tag.ensures.same in
    let ok = c.in_ok-expect_tag.ensures.is given fine is in
    let fine' = fine_still c.args.pull.now c.expect_tag.new.pull same fine in
    let is' = given_still c.args.pull.now c.expect_tag.new.pull given same is in
    hears_err _ _ c.from_residual-in_err-enter.result c.in_err-enter.field-0.0 _ _ _ _ (search rules)
    (begin_in _ _ _ _ _ _ _ _ _ _ _ ok.1
    (hears_error _ _ _ _ _ _ _
    (unmoved_answers (λ s. read_entering s given) c.args.pull.now c.expect_tag.new.pull c.enter.new.self _ same
    (c.in_err-enter.ensures.reads given fine' is'))))

pub returns-in_err-next-clause-reads : goal.returns-in_err-next-clause-reads
unfolding read_entering
returns-in_err-next-clause-reads g c = λ given fine is.
    let same = c.in_ok-expect_tag.ensures.same in
    let ok = c.in_ok-expect_tag.ensures.is given fine is in
    let fine' = fine_still c.args.pull.now c.expect_tag.new.pull same fine in
    let is' = given_still c.args.pull.now c.expect_tag.new.pull given same is in
    let opens = c.in_ok-enter.ensures.stands in
    let within = opens_within opens.0 c.enter.new.self.state.taken c.args.pull.now.state c.enter.new.self.state
    (opens.1 ∙ ap (λ z. opening opens.0 (used c.enter.new.self.state.taken z)) same.0) in
    hears_err _ _ c.from_residual-in_err-next.result c.in_err-next.field-0.0 _ _ _ _ (search rules)
    (begin_in _ _ _ _ _ _ _ _ _ _ _ ok.1
    (hears_then _ _ (enclosing c.enter.new.self.state) _ _ _ _ _ _ _
    (unmoved_answers (λ s. read_entering s given) c.args.pull.now c.expect_tag.new.pull c.enter.new.self _ same
    (c.in_ok-enter.ensures.reads given fine' is'))
    (hears_error _ _ _ _ _ _ _
    (c.in_err-next.ensures.reads c.args.pull.now.state (enclosing c.enter.new.self.state) within))))

pub returns-clause-reads : goal.returns-clause-reads
unfolding read_entering
returns-clause-reads g c = λ given fine is.
    let same = c.in_ok-expect_tag.ensures.same in
    let ok = c.in_ok-expect_tag.ensures.is given fine is in
    let fine' = fine_still c.args.pull.now c.expect_tag.new.pull same fine in
    let is' = given_still c.args.pull.now c.expect_tag.new.pull given same is in
    let opens = c.in_ok-enter.ensures.stands in
    let within = opens_within opens.0 c.enter.new.self.state.taken c.args.pull.now.state c.enter.new.self.state
    (opens.1 ∙ ap (λ z. opening opens.0 (used c.enter.new.self.state.taken z)) same.0) in
    let inside = c.in_ok-next.ensures.stands c.args.pull.now.state (enclosing c.enter.new.self.state) within in
    hears_said _ _ _ _ _ _ _ (ap (λ e. (e, next_of c.in_ok-next.next)) (sym inside.point))
    (begin_in _ _ _ _ _ _ _ _ _ _ _ ok.1
    (hears_then _ _ (enclosing c.enter.new.self.state) _ _ _ _ _ _ _
    (unmoved_answers (λ s. read_entering s given) c.args.pull.now c.expect_tag.new.pull c.enter.new.self _ same
    (c.in_ok-enter.ensures.reads given fine' is'))
    (hears_then _ _ (next_of c.in_ok-next.next) _ _ _ _ _ _ _
    (c.in_ok-next.ensures.reads c.args.pull.now.state (enclosing c.enter.new.self.state) within) (hears_done _ _ _))))

pub returns-clause-stands : goal.returns-clause-stands
returns-clause-stands g c =
    let same = c.in_ok-expect_tag.ensures.same in
    let opens = c.in_ok-enter.ensures.stands in
    let within = opens_within opens.0 c.enter.new.self.state.taken c.args.pull.now.state c.enter.new.self.state
    (opens.1 ∙ ap (λ z. opening opens.0 (used c.enter.new.self.state.taken z)) same.0) in
    let inside = c.in_ok-next.ensures.stands c.args.pull.now.state (enclosing c.enter.new.self.state) within in
    subst (λ e. Inside c.args.pull.now.state e c.ahead.new.pull.state (next_of c.in_ok-next.next))
    (sym inside.point) inside
