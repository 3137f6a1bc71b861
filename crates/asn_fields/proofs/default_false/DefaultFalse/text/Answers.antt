use Rattle.std.proofs.Common.{rules, ◌≡◌, ◌∷◌, [], true, refl}
use Rattle.tlv_core.specs.Identifier.{identifier}
use Rattle.tlv_core.specs.Length.{shortest_length}
use Rattle.x690.specs.DerTexts.{der, der_element, texts_of}
use Rattle.asn_fields.specs.FieldReadings.{with_field}
use Rattle.asn_fields.specs.Fields.{unless_false}
use Rattle.asn_fields.proofs.default_false.DefaultFalse.text.Goals as goal

true_text : 1 ∷ 1 ∷ 255 ∷ [] ≡ texts_of (with_field (unless_false true) [])
unfolding der der_element identifier shortest_length
true_text = refl

pub returns-then-self : goal.returns-then-self
returns-then-self c = search (rules, true_text)
