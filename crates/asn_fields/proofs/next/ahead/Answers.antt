use Rattle.std.proofs.Common.{rules, sym, ap, subst, ◌∙◌}
use Rattle.asn_fields.specs.Insides.{Inside}
use Rattle.ber_pull.specs.Hears.{next_at}
use Rattle.ber_pull.proofs.Hearing.{hears_as, hears_err, hears_said}
use Rattle.asn_fields.proofs.Insides.{next_inside, within_limits, within_next, within_none}
use Rattle.x690.specs.ReadHeaders.{next_tag}
use Rattle.ber_pull.specs.Standing.{enclosing}
use Rattle.asn_fields.proofs.ShortFields.{begins_here}
use Rattle.asn_fields.proofs.next.ahead.Goals as goal

pub returns-in_err-tag-clause-reads : goal.returns-in_err-tag-clause-reads
returns-in_err-tag-clause-reads g c = λ outer inside w.
    hears_err _ _ c.from_residual.result c.in_err-tag.field-0.0 _ _ _ _ (search rules)
    (hears_as _ _ _ _ _ _ _ (within_next outer inside c.args.pull.now.state w)
    (c.in_err-tag.ensures.reads c.requires.fine))

pub returns-clause-reads : goal.returns-clause-reads
returns-clause-reads g c = λ outer inside w.
    hears_said _ _ _ _ _ _ _ (ap (λ k. next_at k c.in_ok-tag.tag) (sym c.at-at.ensures.value))
    (hears_as _ _ _ _ _ _ _ (within_next outer inside c.args.pull.now.state w)
    (c.in_ok-tag.ensures.reads c.requires.fine))

pub returns-clause-stands : goal.returns-clause-stands
returns-clause-stands g c = λ outer inside w.
    let s = c.next_tag.new.self.state in
    subst (λ k. Inside outer inside s (next_at k c.in_ok-tag.tag)) (sym c.at-at.ensures.value)
    (next_inside outer inside c.args.pull.now.state c.in_ok-tag.tag s w
    (c.in_ok-tag.ensures.stands (within_none outer inside c.args.pull.now.state w))
    (c.in_ok-tag.ensures.ends (within_none outer inside c.args.pull.now.state w))
    (begins_here c.args.pull.now.state.limits (enclosing c.args.pull.now.state) _ _ c.in_ok-tag.tag s _ _
    (hears_as _ _ _ _ _ _ _
    (within_next outer inside c.args.pull.now.state w
    ∙ sym (ap (λ l. next_tag l inside) (within_limits outer inside c.args.pull.now.state w))
    ∙ sym (ap (next_tag c.args.pull.now.state.limits) w.point))
    (c.in_ok-tag.ensures.reads c.requires.fine)) c.in_ok-tag.ensures.fits))
