use Rattle.std.proofs.Common.{◌∙◌, ◌++◌, ap, false, true}
use Rattle.x690.specs.DerTexts.{der_element}
use Rattle.pkcs8.proofs.PublicKeyInDer.{key_behind, key_first}
use Rattle.pkcs8.proofs.head_in_der.has_public_key.Goals as goal

pub returns : goal.returns
returns c = λ pass.
    let bits = c.in-Some-element_in_der-2._bits.now in
    let rest = c.in-Some-element_in_der-2.field-0-1.now in
    let there = key_first false bits c.behind_attributes.result.now rest
    (c.in-Some-element_in_der-2.ensures.is ∙ ap (λ t. der_element t false bits ++ rest) c.context_tag.ensures) in
    key_behind _ true c.in-Some._algorithm.now c.args.octets.now c.in-Some.key.now c.in-Some.ensures.is
    (key_behind _ false c.in-Some-element_in_der._key.now c.in-Some.key.now c.in-Some-element_in_der.behind.now
    c.in-Some-element_in_der.ensures.is (c.behind_attributes.ensures there))
