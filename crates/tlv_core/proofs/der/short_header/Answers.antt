use Rattle.std.proofs.Common.{◌∙◌, ◌+◌, ◌*◌, ◌∷◌, ◌++◌, [], ap, ap₂, arith, cond, sym}
use Rattle.tlv_core.specs.Header.{der_header}
use Rattle.tlv_core.proofs.Headers.{identifier_low, shortest_brief}
use Rattle.tlv_core.proofs.der.short_header.Goals as goal

pub returns-then-content-lt128-clause-octets : goal.returns-then-content-lt128-clause-octets
unfolding der_header
returns-then-content-lt128-clause-octets c =
    ap₂ (λ x y. x ++ y)
    (ap (λ z. z ∷ [])
    (c.lead.ensures ∙ ap (λ n. c.args.tag.class * 64 + cond c.args.constructed 32 0 + n) c.number-number.ensures)
    ∙ sym (identifier_low c.args.tag c.args.constructed (omega arith)))
    (sym (shortest_brief c.args.content (omega arith)))
