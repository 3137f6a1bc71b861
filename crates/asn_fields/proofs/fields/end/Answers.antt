use Rattle.std.proofs.Common.{sym, ap, ◌∙◌}
use Rattle.x690.specs.Points.{fault}
use Rattle.tlv_core.specs.declared.reason.Reason.TheVariants.{Extra}
use Rattle.ber_pull.proofs.Hearing.{hears_stop}
use Rattle.asn_fields.proofs.FieldReadings.{end_extra, end_here}
use Rattle.asn_fields.proofs.Insides.{left_here, stands_none}
use Rattle.asn_fields.proofs.fields.end.Goals as goal

pub returns-then-is_some-clause-reads : goal.returns-then-is_some-clause-reads
returns-then-is_some-clause-reads g c = λ outer inside a.
    let first = c.refuse.ensures.first c.requires.fine in
    hears_stop _ (fault c.args.next.at Extra) _ _ _ _ _ _ _ first.0 (ap (λ s. s.taken) first.1)
    (ap g.R.Source.remaining c.refuse.ensures.same)
    (end_extra c.args.next.at c.args.next.tag _ _ (sym c.is_some.ensures ∙ c.if-is_some.true))

pub returns-clause-reads : goal.returns-clause-reads
returns-clause-reads g c = λ outer inside a.
    let none = sym c.is_some.ensures ∙ c.if-is_some.false in
    let left = c.leave.ensures.ended c.requires.fine (a.ended (stands_none c.args.next.at c.args.next.tag none)) in
    end_here c.args.next.at c.args.next.tag _ _ _ _ _ none
    (left_here _ _ _ _ _ left.0 (ap (λ s. s.taken) left.2) (ap g.R.Source.remaining left.1))
