use Rattle.std.proofs.Common.{◌+◌, ◌++◌, ◌∷◌, [], length, ap, sym, ◌∙◌, arith, append_assoc}
use Rattle.tlv_core.specs.Length.{number_octets}
use Rattle.std.proofs.lemmas.List.{length-append}
use Rattle.tlv_core.proofs.Headers.{eight_octets, shortest_brief, shortest_counted}
use Rattle.tlv_core.proofs.header.Header.push_length.Goals as goal

pub overflow_add-number_size : goal.overflow_add-number_size
overflow_add-number_size c = omega (arith, eight_octets c.args.content c.ranges.content.fits, c.number_size.ensures)

pub push_number-requires : goal.push_number-requires
push_number-requires c =
    omega (
      arith,
      eight_octets c.args.content c.ranges.content.fits,
      ap length c.push-else-content-lt128.ensures,
      length-append c.args.self.now ((128 + c.number_size.result) ∷ []),
    )

pub returns-then-content-lt128 : goal.returns-then-content-lt128
returns-then-content-lt128 c =
    c.push.ensures ∙ ap (λ s. c.args.self.now ++ s) (sym (shortest_brief c.args.content c.if-content-lt128.true))

pub returns-else-content-lt128 : goal.returns-else-content-lt128
returns-else-content-lt128 c =
    c.push_number.ensures
    ∙ ap (λ s. s ++ number_octets c.args.content c.args.content) c.push-else-content-lt128.ensures
    ∙ append_assoc c.args.self.now ((128 + c.number_size.result) ∷ []) (number_octets c.args.content c.args.content)
    ∙ ap (λ k. c.args.self.now ++ ((128 + k) ∷ number_octets c.args.content c.args.content)) c.number_size.ensures
    ∙ ap (λ s. c.args.self.now ++ s) (sym (shortest_counted c.args.content (omega arith)))
