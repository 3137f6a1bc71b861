-- The fields of an RSAPrivateKey in octets in DER.
use Rattle.std.proofs.Common.{◌≡◌, ◌∙◌, ◌+◌, ◌++◌, ◌==◌, ◌∷◌, Bool, List, None, [], ap, append-nil, arith, false, length, refl, sym, ℕ}
use Rattle.std.proofs.lemmas.Bool.Decides.{nat_tests}
use Rattle.std.proofs.lemmas.List.{nil_from_length}
use Rattle.tlv_core.specs.Identifier.{Tag}
use Rattle.x690.specs.DerTexts.{der_element, texts_of}
use Rattle.x690.specs.Layouts.{universal}
use Rattle.x690.specs.TypeTerms.{Fields}
use Rattle.x690.specs.Values.{Sequence, Value, members, values_of}
use Rattle.x690_laws.proofs.ReadingSound.{items_values}
use Rattle.pkix_definitions.specs.Paths.{first_field, version_0}
use Rattle.pkix_definitions.specs.Rules.{leaf_is_one_of, rsa_version_rule}
use Rattle.asn_fields.specs.FieldsInDer.{AreFields}
use Rattle.asn_fields.proofs.PartsInDer.{none_there}
use Rattle.pkix_values.proofs.InDer.{first_of}
use Rattle.private_keys.proofs.Rules.{of_any_version}
use Rattle.private_keys.specs.RsaInDer.{HasFields}

pub no_fields : (octets : List ℕ) → length octets ≡ 0 → HasFields 0 octets
no_fields octets none [] is = refl
no_fields octets none (v ∷ vs) is = absurd (none_there v vs [] (append-nil _ ∙ sym is ∙ nil_from_length octets none))

pub one_more : (count : ℕ) (tag : Tag) (form : Bool) (contents octets rest : List ℕ)
    → octets ≡ der_element tag form contents ++ rest → HasFields count rest → HasFields (count + 1) octets
one_more count tag form contents octets rest e h values is =
    let f = first_of tag form contents rest octets values is e in
    omega (arith, ap length f.is, h f.others f.behind)

pub ten_pass : (limit : ℕ) (types : Fields → Fields) (values : List Value) (octets contents rest : List ℕ) (tag : Tag)
    → AreFields limit types values octets [] → octets ≡ der_element tag false contents ++ rest → HasFields 9 rest
    → rsa_version_rule [] (Sequence (universal 16) (values_of values)) ≡ None
ten_pass limit types values octets contents rest tag are e h =
    let ten : length values ≡ 10 =
    one_more 9 tag false contents octets rest e h values (are.1 ∙ append-nil (texts_of values)) in
    let many : length (members (values_of values)) ≡ 10 = ap length (items_values values) ∙ ten in
    of_any_version (leaf_is_one_of first_field (version_0 ∷ []) (members (values_of values)))
    (length (members (values_of values)) == 10) (grind (arith, nat_tests, many))
