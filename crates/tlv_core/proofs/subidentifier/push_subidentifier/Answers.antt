use Rattle.std.proofs.Common.{ap, sym, ◌∙◌, ◌++◌, ◌∷◌, [], ◌/◌, ◌%◌, append_assoc}
use Rattle.tlv_core.specs.Identifier.{leading_base128}
use Rattle.tlv_core.proofs.Base128.{base128_last}
use Rattle.tlv_core.proofs.subidentifier.push_subidentifier.Goals as goal

pub returns : goal.returns
returns c =
    let n = c.args.number in
    let old = c.args.octets.now.items in
    c.in_ok-push.ensures.items ∙ ap (λ s. s ++ (n % 128) ∷ []) c.in_ok-push_leading_base128.ensures
    ∙ append_assoc old (leading_base128 (n / 128) (n / 128)) ((n % 128) ∷ [])
    ∙ ap (λ s. old ++ s) (sym (base128_last n))
