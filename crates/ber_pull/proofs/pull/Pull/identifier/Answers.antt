use Rattle.std.proofs.Common.{rules, nat_lt, length, refl, sym, ap, ◌∙◌}
use Rattle.tlv_core.specs.declared.fault.ReadError.TheVariants.{Fault}
use Rattle.tlv_core.specs.declared.reason.Reason.TheVariants.{BadTag, TooDeep}
use Rattle.x690.specs.Points.{fault}
use Rattle.x690.specs.ReadHeaders.{header_octet, read_tag_number, ContainerEnds}
use Rattle.ber_pull.specs.Calls.{read_end_of_contents}
use Rattle.ber_pull.specs.Standing.{enclosing, failure, is_over}
use Rattle.ber_pull.proofs.Hearing.{hears_as, hears_at, hears_halted, hears_said, hears_stop}
use Rattle.ber_pull.proofs.Headers.{not_opposite, opposite}
use Rattle.ber_pull.proofs.Nexts.{asks_here, next_bad_tag, next_deep, next_element, next_end, next_error, next_number_error, ended_over, or_true, place_taken}
use Rattle.ber_pull.proofs.pull.Pull.identifier.Goals as goal

pub returns-in_err-first-clause-reads : goal.returns-in_err-first-clause-reads
returns-in_err-first-clause-reads g c =
    hears_halted c.octet.new.self _ _ c.from_residual.result c.in_err-first.field-0.0 _ _ _ _ (search rules)
    (next_error c.args.self.now.state _ _ _ _
    (asks_here _ c.requires.unused c.requires.more)
    (hears_as _ _ _ _ _ _ _
    (ap (header_octet c.args.self.now.state.limits (enclosing c.args.self.now.state).nearest_end)
    c.taken-start.ensures.value) c.in_err-first.ensures.reads))

pub returns-in_err-end_of_contents-clause-reads : goal.returns-in_err-end_of_contents-clause-reads
returns-in_err-end_of_contents-clause-reads g c =
    hears_halted c.end_of_contents.new.self _ _ c.from_residual-in_err-end_of_contents.result c.in_err-end_of_contents.field-0.0 _ _ _ _
    (search rules)
    (next_end c.args.self.now.state _ _ _ c.in_ok-first.first _ _ _
    (record {
      asks = asks_here _ c.requires.unused c.requires.more;
      first =
          hears_as _ _ _ _ _ _ _
          (ap (header_octet c.args.self.now.state.limits (enclosing c.args.self.now.state).nearest_end)
          c.taken-start.ensures.value) c.in_ok-first.ensures.reads;
    }) c.if-first-eq0.true
    (hears_as _ _ _ _ _ _ _
    (ap (λ s. read_end_of_contents s.limits (enclosing s) c.taken-start.result) c.in_ok-first.ensures.stands
    ∙ ap
    (read_end_of_contents c.args.self.now.state.limits (enclosing c.args.self.now.state)) c.taken-start.ensures.value)
    c.in_err-end_of_contents.ensures.reads))

pub returns-then-first-eq0-clause-reads : goal.returns-then-first-eq0-clause-reads
returns-then-first-eq0-clause-reads g c =
    hears_said _ (ContainerEnds c.taken-start.result) _ _ _ _ _
    (ap ContainerEnds
    (c.taken-start.ensures.value
    ∙ sym (place_taken c.args.self.now.state c.requires.unused)))
    (next_end c.args.self.now.state _ _ _ c.in_ok-first.first _ _ _
    (record {
      asks = asks_here _ c.requires.unused c.requires.more;
      first =
          hears_as _ _ _ _ _ _ _
          (ap (header_octet c.args.self.now.state.limits (enclosing c.args.self.now.state).nearest_end)
          c.taken-start.ensures.value) c.in_ok-first.ensures.reads;
    }) c.if-first-eq0.true
    (hears_as _ _ _ _ _ _ _
    (ap (λ s. read_end_of_contents s.limits (enclosing s) c.taken-start.result) c.in_ok-first.ensures.stands
    ∙ ap
    (read_end_of_contents c.args.self.now.state.limits (enclosing c.args.self.now.state)) c.taken-start.ensures.value)
    c.in_ok-end_of_contents.ensures.reads))

pub returns-then-first-eq32-clause-reads : goal.returns-then-first-eq32-clause-reads
returns-then-first-eq32-clause-reads g c =
    hears_stop _ (fault c.args.self.now.state.taken BadTag) _ _ _ _ _ _ _
    (ap failure c.halt.ensures.stands ∙ ap (λ p. Fault (fault p BadTag)) c.taken-start.ensures.value)
    (ap (λ s. s.taken) c.halt.ensures.stands) (ap g.R.Source.remaining c.halt.ensures.same)
    (next_bad_tag c.args.self.now.state _ _ c.in_ok-first.first _
    (record {
      asks = asks_here _ c.requires.unused c.requires.more;
      first =
          hears_as _ _ _ _ _ _ _
          (ap (header_octet c.args.self.now.state.limits (enclosing c.args.self.now.state).nearest_end)
          c.taken-start.ensures.value) c.in_ok-first.ensures.reads;
    }) c.if-first-eq32.true)

pub returns-in_err-number-clause-reads : goal.returns-in_err-number-clause-reads
returns-in_err-number-clause-reads g c =
    hears_halted c.tag_number.new.self _ _ c.from_residual-in_err-number.result c.in_err-number.field-0.0 _ _ _ _ (search rules)
    (next_number_error c.args.self.now.state _ _ _ c.in_ok-first.first _ _ _
    (record {
      came = record {
        asks = asks_here _ c.requires.unused c.requires.more;
        first =
            hears_as _ _ _ _ _ _ _
            (ap (header_octet c.args.self.now.state.limits (enclosing c.args.self.now.state).nearest_end)
            c.taken-start.ensures.value) c.in_ok-first.ensures.reads;
      };
      octet = c.in_ok-first.ensures.octet;
      no_end = c.if-first-eq0.false;
      no_bad_tag = c.if-first-eq32.false;
    })
    (hears_as _ _ _ _ _ _ _
    (ap (λ s. read_tag_number s.limits (enclosing s).nearest_end c.taken-start.result c.in_ok-first.first)
    c.in_ok-first.ensures.stands
    ∙ ap (λ p.
    read_tag_number c.args.self.now.state.limits (enclosing c.args.self.now.state).nearest_end p c.in_ok-first.first)
    c.taken-start.ensures.value) c.in_err-number.ensures.reads))

pub returns-then-is_deep-clause-reads : goal.returns-then-is_deep-clause-reads
returns-then-is_deep-clause-reads g c =
    hears_stop _ (fault c.args.self.now.state.taken TooDeep) _ _ _ _ _ _ _
    (ap failure c.halt-then-is_deep.ensures.stands ∙ ap (λ p. Fault (fault p TooDeep)) c.taken-start.ensures.value)
    (ap (λ s. s.taken) c.halt-then-is_deep.ensures.stands) (ap g.R.Source.remaining c.halt-then-is_deep.ensures.same)
    (next_deep c.args.self.now.state _ _ _ c.in_ok-first.first _ _ c.in_ok-number.number
    (record {
      came = record {
        asks = asks_here _ c.requires.unused c.requires.more;
        first =
            hears_as _ _ _ _ _ _ _
            (ap (header_octet c.args.self.now.state.limits (enclosing c.args.self.now.state).nearest_end)
            c.taken-start.ensures.value) c.in_ok-first.ensures.reads;
      };
      octet = c.in_ok-first.ensures.octet;
      no_end = c.if-first-eq0.false;
      no_bad_tag = c.if-first-eq32.false;
    })
    (hears_as _ _ _ _ _ _ _
    (ap (λ s. read_tag_number s.limits (enclosing s).nearest_end c.taken-start.result c.in_ok-first.first)
    c.in_ok-first.ensures.stands
    ∙ ap (λ p.
    read_tag_number c.args.self.now.state.limits (enclosing c.args.self.now.state).nearest_end p c.in_ok-first.first)
    c.taken-start.ensures.value) c.in_ok-number.ensures.reads)
    (sym (ap (λ s. nat_lt (length s.containers) s.limits.depth) c.in_ok-number.ensures.stands
    ∙ ap (λ s. nat_lt (length s.containers) s.limits.depth) c.in_ok-first.ensures.stands)
    ∙ opposite _ _ c.is_deep.ensures c.if-is_deep.true))

pub returns-clause-reads : goal.returns-clause-reads
returns-clause-reads g c =
    hears_at _ _ _ _ _ _ _ _ (ap (λ s. s.taken) c.give.ensures) refl
    (next_element c.args.self.now.state _ _ _ c.in_ok-first.first _ _ c.in_ok-number.number c.tag_of-tag.result
    (record {
      came = record {
        asks = asks_here _ c.requires.unused c.requires.more;
        first =
            hears_as _ _ _ _ _ _ _
            (ap (header_octet c.args.self.now.state.limits (enclosing c.args.self.now.state).nearest_end)
            c.taken-start.ensures.value) c.in_ok-first.ensures.reads;
      };
      octet = c.in_ok-first.ensures.octet;
      no_end = c.if-first-eq0.false;
      no_bad_tag = c.if-first-eq32.false;
    })
    (hears_as _ _ _ _ _ _ _
    (ap (λ s. read_tag_number s.limits (enclosing s).nearest_end c.taken-start.result c.in_ok-first.first)
    c.in_ok-first.ensures.stands
    ∙ ap (λ p.
    read_tag_number c.args.self.now.state.limits (enclosing c.args.self.now.state).nearest_end p c.in_ok-first.first)
    c.taken-start.ensures.value) c.in_ok-number.ensures.reads)
    (sym (ap (λ s. nat_lt (length s.containers) s.limits.depth) c.in_ok-number.ensures.stands
    ∙ ap (λ s. nat_lt (length s.containers) s.limits.depth) c.in_ok-first.ensures.stands)
    ∙ not_opposite _ _ c.is_deep.ensures c.if-is_deep.false) c.tag_of-tag.ensures.is)

pub returns-then-first-eq0-clause-ends : goal.returns-then-first-eq0-clause-ends
returns-then-first-eq0-clause-ends g c = λ ends.
    let stands = c.in_ok-end_of_contents.ensures.stands in
    let first = c.in_ok-first.ensures.stands in (
      ap (λ z. z.given) stands ∙ (ap (λ z. z.given) first ∙ c.requires.unused),
      or_true _ _ (ap is_over stands ∙ ended_over c.octet.new.self.state _ c.in_ok-end_of_contents.ensures.indefinite),
    )
