-- publicKey of a OneAsymmetricKey in octets in DER.
use Rattle.std.proofs.Common.{◌≡◌, ◌∙◌, ◌++◌, ◌==◌, ◌∷◌, Bool, List, None, [], ap, append-nil, arith, false, length, not, true, ℕ}
use Rattle.std.proofs.lemmas.Bool.Decides.{nat_tests}
use Rattle.tlv_core.specs.Identifier.{Tag}
use Rattle.x690.specs.DerTexts.{der_element, texts_of}
use Rattle.x690.specs.Layouts.{context_specific, same_tag, universal}
use Rattle.x690.specs.TypeTerms.{Fields}
use Rattle.x690.specs.Values.{Sequence, Value, members, value_tag, values_of}
use Rattle.x690_laws.proofs.ReadingSound.{items_values}
use Rattle.pkix_definitions.specs.Paths.{first_field, version_0}
use Rattle.pkix_definitions.specs.Rules.{key_version_rule, leaf_is_one_of, with_tag}
use Rattle.asn_fields.specs.FieldsInDer.{AreFields}
use Rattle.pkix_values.proofs.InDer.{first_of}
use Rattle.private_keys.proofs.Rules.{of_any_version}
use Rattle.pkcs8.specs.PublicKeyInDer.{HasPublicKey, has_key}

abbrev one : Tag
one = context_specific 1

-- by whether the first value is the one under [1]
abbrev key_by : Bool → Value → List Value → Bool
key_by b v vs = not (length {A = Value} (elim b [ true ↦ v ∷ with_tag one vs | false ↦ with_tag one vs ]) == 0)

first_there : (v : Value) (vs : List Value) → key_by true v vs ≡ true
first_there v vs = grind (arith, nat_tests)

among_others : (b : Bool) (v : Value) (vs : List Value) → has_key vs ≡ true → key_by b v vs ≡ true
among_others true v vs h = first_there v vs
among_others false v vs h = h

pub key_first : (form : Bool) (contents octets rest : List ℕ) → octets ≡ der_element one form contents ++ rest
    → HasPublicKey octets
key_first form contents octets rest e values is =
    let f = first_of one form contents rest octets values is e in
    ap has_key f.is ∙ ap (λ t. key_by (same_tag one t) f.value f.others) f.tagged ∙ first_there f.value f.others

pub key_behind : (tag : Tag) (form : Bool) (contents octets rest : List ℕ)
    → octets ≡ der_element tag form contents ++ rest → HasPublicKey rest → HasPublicKey octets
key_behind tag form contents octets rest e h values is =
    let f = first_of tag form contents rest octets values is e in
    ap has_key f.is ∙ among_others (same_tag one (value_tag f.value)) f.value f.others (h f.others f.behind)

-- A key with a public key may be of either version.
pub version_passes : (limit : ℕ) (types : Fields → Fields) (values : List Value) (octets contents rest : List ℕ)
    (tag : Tag)
    → AreFields limit types values octets [] → octets ≡ der_element tag false contents ++ rest → HasPublicKey rest
    → key_version_rule [] (Sequence (universal 16) (values_of values)) ≡ None
version_passes limit types values octets contents rest tag are e h =
    of_any_version (leaf_is_one_of first_field (version_0 ∷ []) (members (values_of values)))
    (has_key (members (values_of values)))
    (ap has_key (items_values values)
    ∙ key_behind tag false contents octets rest e h values (are.1 ∙ append-nil (texts_of values)))
