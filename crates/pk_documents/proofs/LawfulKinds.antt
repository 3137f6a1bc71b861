-- The type of each kind is as the laws ask.
use Rattle.pkix_definitions.proofs.LawfulTypes.{ec_key, encrypted_key, key, key_package, public_key_info, request}
use Rattle.pk_documents.specs.Kinds.{KindsAreLawful}
use Rattle.pk_documents.specs.declared.kind.Kind.TheVariants.{Ec, Encrypted, Key, Package, Public, Request}

pub kinds_are_lawful : KindsAreLawful
kinds_are_lawful Key = key
kinds_are_lawful Ec = ec_key
kinds_are_lawful Request = request
kinds_are_lawful Public = public_key_info
kinds_are_lawful Encrypted = encrypted_key
kinds_are_lawful Package = key_package

pub ruleset lawful_types = (ec_key, encrypted_key, key, key_package, public_key_info, request)
