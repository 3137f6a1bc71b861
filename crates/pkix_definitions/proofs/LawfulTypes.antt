-- The types of documents and of their parts meet what laws ask of a type.
use Rattle.std.proofs.Common.{Bool, List, Some, [], arith, false, length, refl, subst, true, ℕ, ◌==◌, ◌||◌, ◌∷◌, ◌≡◌}
use Rattle.std.proofs.lemmas.Bool.Decides.{nat_tests}
use Rattle.tlv_core.specs.Identifier.{Tag}
use Rattle.tlv_core.specs.declared.reason.Reason.TheVariants.{Curve, KeyLength, Parameters, Version, VersionRule}
use Rattle.tlv_core.specs.declared.reason.Reason.{Reason}
use Rattle.x690.specs.Layouts.{context_specific, same_tag, universal}
use Rattle.x690.specs.Lists.{same_octets}
use Rattle.x690.specs.Premises.{Fair, Honest, HonestReason, HonestRule, Lawful}
use Rattle.x690.specs.TypeTerms.{Distinct, fields_fit_tag, fits_tag}
use Rattle.pkix_definitions.specs.DocumentLaws.{DocumentsAreLawful}
use Rattle.pkix_definitions.specs.DocumentTypes.{AlgorithmIdentifier, AsymmetricKeyPackage, Attribute, CertificationRequest, CertificationRequestInfo, ECPrivateKey, EncryptedPrivateKeyInfo, Extension, Name, NameItem, OneAsymmetricKey, OtherPrimeInfo, RSAPrivateKey, RequestAttribute, SubjectPublicKeyInfo, private_key}
use Rattle.pkix_definitions.specs.Rules.{container_curve, ec_length, ec_parameters_rule, ec_rule, else_refused, inner_curve_rule, inner_ec_rule, key_bits_rule, key_version_rule, own_curve, parameters_rule, rsa_version_rule, version_rule}
use Rattle.pkix_definitions.proofs.Fairs.{fair_ec, fair_ec_parameters, fair_inner_curve, fair_inner_ec, fair_key_bits, fair_key_version, fair_parameters, fair_rsa_version, fair_version}

-- a test that gives one reason is honest where the reason is
tested : (b : Bool) (why given : Reason) → HonestReason why → else_refused b why ≡ Some given → HonestReason given
tested true why given h e = cc
tested false why given h e = let z : why ≡ given = cc in subst HonestReason z h

version_honest : HonestReason Version
version_honest = (λ z. cc, λ z. cc)

parameters_honest : HonestReason Parameters
parameters_honest = (λ z. cc, λ z. cc)

length_honest : HonestReason KeyLength
length_honest = (λ z. cc, λ z. cc)

pub rule_honest : HonestReason VersionRule
rule_honest = (λ z. cc, λ z. cc)

curve_honest : HonestReason Curve
curve_honest = (λ z. cc, λ z. cc)

pub honest_version : (allowed : List (List ℕ)) → HonestRule (version_rule allowed)
honest_version allowed earlier v why e = tested _ Version why version_honest e

pub honest_parameters : HonestRule parameters_rule
honest_parameters earlier v why e = tested _ Parameters why parameters_honest e

pub honest_ec_parameters : HonestRule ec_parameters_rule
honest_ec_parameters earlier v why e = tested _ Parameters why parameters_honest e

pub honest_key_bits : (path : List ℕ) → HonestRule (key_bits_rule path)
honest_key_bits path earlier v why e = tested _ KeyLength why length_honest e

pub honest_ec : HonestRule ec_rule
honest_ec earlier v why e = tested _ KeyLength why length_honest e

pub honest_inner_curve : HonestRule inner_curve_rule
honest_inner_curve earlier v why e = tested _ KeyLength why length_honest e

pub honest_inner_ec : HonestRule inner_ec_rule
honest_inner_ec earlier v why e = go (length (own_curve v) == 0) e
  where
    go : (b : Bool)
        → elim b [
          | false ↦ else_refused (same_octets (own_curve v) (container_curve earlier)) Curve
          | true ↦ else_refused (ec_length (container_curve earlier) v) KeyLength
        ]
        ≡ Some why
        → HonestReason why
    go false x = tested _ Curve why curve_honest x
    go true x = tested _ KeyLength why length_honest x

pub honest_key_version : HonestRule key_version_rule
honest_key_version earlier v why e = tested _ VersionRule why rule_honest e

pub honest_rsa_version : HonestRule rsa_version_rule
honest_rsa_version earlier v why e = tested _ VersionRule why rule_honest e

-- two tags that differ
pub apart : (t v u : Tag) → same_tag t v ≡ false → same_tag t u ≡ true → same_tag v u ≡ false
apart t v u d h = grind (arith, nat_tests)

pub neither : (a b : Bool) → a ≡ false → b ≡ false → (a || b) ≡ false
neither true b e f = cc
neither false b e f = f

pub algorithm : Lawful AlgorithmIdentifier
unfolding Fair Honest Distinct AlgorithmIdentifier fits_tag fields_fit_tag
algorithm = record {
  fair = (fair_parameters, (tt, (tt, tt)));
  honest = (honest_parameters, (tt, (tt, tt)));
  distinct = (tt, (tt, tt, λ u h. refl));
}

pub name_item : Lawful NameItem
unfolding Fair Honest Distinct NameItem
name_item = record { fair = (tt, (tt, tt)); honest = (tt, (tt, tt)); distinct = (tt, (tt, tt)) }

pub name : Lawful Name
unfolding Fair Honest Distinct Name
name = record { fair = name_item.fair; honest = name_item.honest; distinct = name_item.distinct }

pub public_key_info : Lawful SubjectPublicKeyInfo
unfolding Fair Honest Distinct SubjectPublicKeyInfo
public_key_info = record {
  fair = (algorithm.fair, ((fair_key_bits (0 ∷ 0 ∷ []), tt), tt));
  honest = (algorithm.honest, ((honest_key_bits (0 ∷ 0 ∷ []), tt), tt));
  distinct = (algorithm.distinct, (tt, tt));
}

pub attribute : Lawful Attribute
unfolding Fair Honest Distinct Attribute
attribute = record { fair = (tt, (tt, tt)); honest = (tt, (tt, tt)); distinct = (tt, (tt, tt)) }

pub extension : Lawful Extension
unfolding Fair Honest Distinct Extension fits_tag fields_fit_tag
extension = record {
  fair = (tt, (tt, (tt, tt)));
  honest = (tt, (tt, (tt, tt)));
  distinct = (tt, (tt, (tt, tt), λ u h. apart (universal 1) (universal 4) u refl h));
}

pub request_attribute : Lawful RequestAttribute
unfolding Fair Honest Distinct RequestAttribute
request_attribute = record {
  fair = (tt, ((extension.fair, tt), tt));
  honest = (tt, ((extension.honest, tt), tt));
  distinct = (tt, ((extension.distinct, tt), tt));
}

pub ec_key : Lawful ECPrivateKey
unfolding Fair Honest Distinct ECPrivateKey fits_tag fields_fit_tag
ec_key = record {
  fair = (fair_ec, ((fair_version ((1 ∷ []) ∷ []), tt), (tt, ((tt, tt), ((tt, tt), tt)))));
  honest = (honest_ec, ((honest_version ((1 ∷ []) ∷ []), tt), (tt, ((tt, tt), ((tt, tt), tt)))));
  distinct = (tt, (tt, ((tt, tt), ((tt, tt), tt, λ u h. refl), λ u h. public_key_apart u h)));
}
  where
    public_key_apart : (u : Tag) → same_tag (context_specific 0) u ≡ true
        → (same_tag (context_specific 1) u || false) ≡ false
    public_key_apart u h = neither _ _ (apart (context_specific 0) (context_specific 1) u refl h) refl

pub other_prime_info : Lawful OtherPrimeInfo
unfolding Fair Honest Distinct OtherPrimeInfo
other_prime_info =
    record { fair = (tt, (tt, (tt, tt))); honest = (tt, (tt, (tt, tt))); distinct = (tt, (tt, (tt, tt))) }

pub rsa : Lawful RSAPrivateKey
unfolding Fair Honest Distinct RSAPrivateKey fits_tag fields_fit_tag
rsa = record {
  fair = (
    fair_rsa_version,
    (
      (fair_version ((0 ∷ []) ∷ (1 ∷ []) ∷ []), tt),
      (tt, (tt, (tt, (tt, (tt, (tt, (tt, (tt, ((tt, other_prime_info.fair), tt))))))))),
    ),
  );
  honest = (
    honest_rsa_version,
    (
      (honest_version ((0 ∷ []) ∷ (1 ∷ []) ∷ []), tt),
      (tt, (tt, (tt, (tt, (tt, (tt, (tt, (tt, ((rule_honest, other_prime_info.honest), tt))))))))),
    ),
  );
  distinct = (tt, (tt, (tt, (tt, (tt, (tt, (tt, (tt, (tt, ((tt, other_prime_info.distinct), tt, λ u h. refl))))))))));
}

-- what privateKey contains, by the algorithm
private_keys : Lawful private_key
unfolding Fair Honest Distinct
private_keys = record {
  fair = ((fair_inner_ec, ec_key.fair), ((fair_inner_curve, tt), ((λ earlier earlier' v w es s. refl, rsa.fair), tt)));
  honest = ((honest_inner_ec, ec_key.honest), ((honest_inner_curve, tt), ((λ earlier v why e. cc, rsa.honest), tt)));
  distinct = (ec_key.distinct, (tt, (rsa.distinct, tt)));
}

pub key : Lawful OneAsymmetricKey
unfolding Fair Honest Distinct OneAsymmetricKey fits_tag fields_fit_tag
key = record {
  fair = (
    fair_key_version,
    (
      (fair_version ((0 ∷ []) ∷ (1 ∷ []) ∷ []), tt),
      (
        (fair_ec_parameters, algorithm.fair),
        (
          private_keys.fair,
          (attribute.fair, ((tt, (fair_key_bits (1 ∷ 0 ∷ []), tt)), tt)),
        ),
      ),
    ),
  );
  honest = (
    honest_key_version,
    (
      (honest_version ((0 ∷ []) ∷ (1 ∷ []) ∷ []), tt),
      (
        (honest_ec_parameters, algorithm.honest),
        (
          private_keys.honest,
          (attribute.honest, ((rule_honest, (honest_key_bits (1 ∷ 0 ∷ []), tt)), tt)),
        ),
      ),
    ),
  );
  distinct = (
    tt,
    (
      algorithm.distinct,
      (
        private_keys.distinct,
        (attribute.distinct, ((tt, tt), tt, λ u h. refl), λ u h. attributes_apart u h),
      ),
    ),
  );
}
  where
    attributes_apart : (u : Tag) → same_tag (context_specific 0) u ≡ true
        → ((same_tag (context_specific 1) u || same_tag (context_specific 1) u) || false) ≡ false
    attributes_apart u h =
        let z = apart (context_specific 0) (context_specific 1) u refl h in neither _ _ (neither _ _ z z) refl

pub key_package : Lawful AsymmetricKeyPackage
unfolding Fair Honest Distinct AsymmetricKeyPackage
key_package = record { fair = key.fair; honest = key.honest; distinct = key.distinct }

pub encrypted_key : Lawful EncryptedPrivateKeyInfo
unfolding Fair Honest Distinct EncryptedPrivateKeyInfo
encrypted_key = record {
  fair = (algorithm.fair, (tt, tt));
  honest = (algorithm.honest, (tt, tt));
  distinct = (algorithm.distinct, (tt, tt));
}

pub request_info : Lawful CertificationRequestInfo
unfolding Fair Honest Distinct CertificationRequestInfo fits_tag fields_fit_tag
request_info = record {
  fair = ((fair_version ((0 ∷ []) ∷ []), tt), (name.fair, (public_key_info.fair, (request_attribute.fair, tt))));
  honest =
      ((honest_version ((0 ∷ []) ∷ []), tt), (name.honest, (public_key_info.honest, (request_attribute.honest, tt))));
  distinct = (tt, (name.distinct, (public_key_info.distinct, (request_attribute.distinct, tt, λ u h. refl))));
}

pub request : Lawful CertificationRequest
unfolding Fair Honest Distinct CertificationRequest
request = record {
  fair = (request_info.fair, (algorithm.fair, (tt, tt)));
  honest = (request_info.honest, (algorithm.honest, (tt, tt)));
  distinct = (request_info.distinct, (algorithm.distinct, (tt, tt)));
}

pub documents_are_lawful : DocumentsAreLawful
documents_are_lawful = record {
  key = key;
  ec = ec_key;
  rsa = rsa;
  other_prime_info = other_prime_info;
  encrypted_key = encrypted_key;
  key_package = key_package;
  public_key_info = public_key_info;
  request = request;
  request_info = request_info;
  algorithm = algorithm;
  name_item = name_item;
  name = name;
  attribute = attribute;
  request_attribute = request_attribute;
  extension = extension;
}
