use Rattle.std.proofs.Common.{rules, ◌≡◌, true, false, [], sym, ap, subst, ◌∙◌}
use Rattle.x690.specs.Points.{fault}
use Rattle.ber_pull.specs.Standing.{failure}
use Rattle.ber_pull.proofs.Hearing.{hears_done, hears_error, hears_off, hears_on, hears_then, hears_stop}
use Rattle.std.proofs.Common.{◌∷◌, ◌++◌}
use Rattle.tlv_core.specs.declared.reason.Reason.TheVariants.{BadBits}
use Rattle.x690.specs.ReadContents.{is_next_segment}
use Rattle.ber_pull.specs.Segments.{read_one_segment, segment_number}
use Rattle.ber_pull.proofs.Hearing.{hears_then_memory}
use Rattle.ber_pull.proofs.Joining.{added_halted, follows}
use Rattle.ber_pull.proofs.pull.Pull.segment.Goals as goal

pub returns-in_err-primitive_contents-clause-reads : goal.returns-in_err-primitive_contents-clause-reads
unfolding read_one_segment
returns-in_err-primitive_contents-clause-reads g c = λ s joins.
    added_halted c.args.self.now c.primitive_contents.new.self _ c.args.joined.now c.from_residual.result
    c.in_err-primitive_contents.field-0.0
    (search rules) (hears_error _ _ _ _ _ _ _ c.in_err-primitive_contents.ensures.reads)

pub returns-then-not-may_follow-clause-reads : goal.returns-then-not-may_follow-clause-reads
unfolding read_one_segment
returns-then-not-may_follow-clause-reads g c = λ s joins.
    let test = subst (λ w. is_next_segment (segment_number c.args.joined.now.is_bits) s w ≡ false) c.deref.ensures.value
    (sym (follows c.args.joined.now.is_bits c.args.joined.now.unused s c.deref.result.now joins.unused)
    ∙ sym c.may_follow.ensures ∙ c.if-not-may_follow.true) in
    hears_stop _ (fault c.args.start BadBits) _ _ _ _ _ _ _ (ap failure c.halt.ensures.stands) (ap (λ s. s.taken) c.halt.ensures.stands)
    (ap g.R.Source.remaining c.halt.ensures.same)
    (hears_then _ _ c.primitive_contents.new.octets.items _ _ _ _ _ _ _ c.in_ok-primitive_contents.ensures.reads
    (hears_off _ _ _ _ _ test))

pub returns-in-Ok-clause-reads : goal.returns-in-Ok-clause-reads
unfolding read_one_segment
returns-in-Ok-clause-reads g c = λ s joins.
    let test = subst (λ w. is_next_segment (segment_number c.args.joined.now.is_bits) s w ≡ true) c.deref.ensures.value
    (sym (follows c.args.joined.now.is_bits c.args.joined.now.unused s c.deref.result.now joins.unused)
    ∙ sym c.may_follow.ensures ∙ c.if-not-may_follow.false) in (
      s ++ (c.primitive_contents.new.octets.items ∷ []),
      c.in-Ok.ensures.more s joins,
      hears_then _ _ c.primitive_contents.new.octets.items _ _ _ _ _ _ _ c.in_ok-primitive_contents.ensures.reads
          (hears_on _ _ _ _ _ _ _ _ test (hears_done _ _ _)),
    )

pub returns-in-Err-clause-reads : goal.returns-in-Err-clause-reads
unfolding read_one_segment
returns-in-Err-clause-reads g c = λ s joins.
    let stands = c.halt_without_memory.ensures.stands in
    hears_error _ _ (failure c.halt_without_memory.new.self.state) _ _ _ _
    (hears_then_memory _ c.primitive_contents.new.octets.items (failure c.halt_without_memory.new.self.state)
    _ _ _ _ _ _ (ap failure stands) (ap (λ s. s.taken) stands)
    (ap g.R.Source.remaining c.halt_without_memory.ensures.same) c.in_ok-primitive_contents.ensures.reads)
