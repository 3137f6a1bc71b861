use Rattle.std.proofs.Common.{◌+◌, ◌++◌, ◌∷◌, ◌*◌, [], cond, length, ◌/◌, ◌%◌, ap, sym, ◌∙◌, arith}
use Rattle.tlv_core.specs.Identifier.{leading_base128, base128}
use Rattle.std.proofs.lemmas.List.{length-append}
use Rattle.tlv_core.proofs.Headers.{three_leading, identifier_low, identifier_high, base128_are}
use Rattle.tlv_core.proofs.header.Header.push_identifier.Goals as goal

pub push_leading_base128-requires-clause-room : goal.push_leading_base128-requires-clause-room
push_leading_base128-requires-clause-room c =
    let first =
    ap length (c.push-else-number-lt31.ensures ∙ ap (λ s. s ++ (c.lead-else-number-lt31.result ∷ [])) c.requires) in
    omega (arith, first, three_leading (c.number-number.result / 128) (omega arith))

pub push-requires-else-number-lt31-2 : goal.push-requires-else-number-lt31-2
push-requires-else-number-lt31-2 c =
    let first =
    ap length (c.push-else-number-lt31.ensures ∙ ap (λ s. s ++ (c.lead-else-number-lt31.result ∷ [])) c.requires) in
    omega (
      arith,
      first,
      three_leading (c.number-number.result / 128) (omega arith),
      ap length c.push_leading_base128.ensures,
      length-append c.push-else-number-lt31.new.self
          (leading_base128 (c.number-number.result / 128) (c.number-number.result / 128)),
    )

pub returns-then-number-lt31-clause-octets : goal.returns-then-number-lt31-clause-octets
returns-then-number-lt31-clause-octets c =
    c.push.ensures ∙ ap (λ s. s ++ (c.lead.result ∷ [])) c.requires
    ∙ ap (λ x. x ∷ [])
    (c.lead.ensures ∙ ap (λ n. c.args.tag.class * 64 + cond c.args.constructed 32 0 + n) c.number-number.ensures)
    ∙ sym (identifier_low c.args.tag c.args.constructed (omega arith))

pub returns-else-number-lt31-clause-octets : goal.returns-else-number-lt31-clause-octets
returns-else-number-lt31-clause-octets c =
    let n = c.number-number.result in
    c.push-else-number-lt31-2.ensures
    ∙ ap (λ s. s ++ ((n % 128) ∷ [])) (c.push_leading_base128.ensures
    ∙ ap (λ s. s ++ leading_base128 (n / 128) (n / 128))
    (c.push-else-number-lt31.ensures ∙ ap (λ s. s ++ (c.lead-else-number-lt31.result ∷ [])) c.requires))
    ∙ ap (λ x. x ∷ (leading_base128 (n / 128) (n / 128) ++ ((n % 128) ∷ []))) c.lead-else-number-lt31.ensures
    ∙ ap (λ s. (c.args.tag.class * 64 + cond c.args.constructed 32 0 + 31) ∷ s)
    (sym (base128_are n) ∙ ap base128 c.number-number.ensures)
    ∙ sym (identifier_high c.args.tag c.args.constructed (omega arith))

pub returns-else-number-lt31-clause-short : goal.returns-else-number-lt31-clause-short
returns-else-number-lt31-clause-short c =
    let n = c.number-number.result in
    let first =
    ap length (c.push-else-number-lt31.ensures ∙ ap (λ s. s ++ (c.lead-else-number-lt31.result ∷ [])) c.requires) in
    omega (
      arith,
      first,
      three_leading (n / 128) (omega arith),
      ap length c.push_leading_base128.ensures,
      ap length c.push-else-number-lt31-2.ensures,
      length-append c.push-else-number-lt31.new.self (leading_base128 (n / 128) (n / 128)),
      length-append c.push_leading_base128.new.self ((n % 128) ∷ []),
    )
