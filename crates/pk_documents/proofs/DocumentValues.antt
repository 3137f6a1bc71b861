-- Documents of one kind by their values.
use Rattle.std.proofs.Common.{◌≡◌, ◌↔◌, Bool, IsTrue, subst, sym}
use Rattle.x690.specs.Values.{Same, Value}
use Rattle.pkcs8.specs.contracts.key_package.KeyPackageDerText.TheImpl as package_text
use Rattle.pkcs8.specs.contracts.one_asymmetric_key.OneAsymmetricKeyDerText.TheImpl as key_text
use Rattle.private_keys.specs.contracts.ec_private_key.EcPrivateKeyDerText.TheImpl as ec_text
use Rattle.pkcs8.specs.EncryptedKeys.{encrypted_key_value_of}
use Rattle.pkcs10.specs.Requests.{request_value_of}
use Rattle.pkix_values.specs.PublicKeys.{public_key_value_of}
use Rattle.pk_documents.specs.Documents.{value_by}
use Rattle.pk_documents.specs.declared.document.Document.{Document}

abbrev pub valued : Document → Value
valued document =
    value_by key_text.value-value.it ec_text.value-value.it request_value_of public_key_value_of
    encrypted_key_value_of package_text.value-value.it document

pub same_as : {D K : Type 0} (kind : D → K) (value : D → Value) (x y x' y' : D) (b : Bool) → x ≡ x' → y ≡ y'
    → kind x' ≡ kind y' → IsTrue b ↔ Same (value x') (value y')
    → IsTrue b ↔ ((kind x ≡ kind y) × Same (value x) (value y))
same_as kind value x y x' y' b e f k h =
    subst (λ z. IsTrue b ↔ ((kind z ≡ kind y) × Same (value z) (value y))) (sym e)
    (subst (λ z. IsTrue b ↔ ((kind x' ≡ kind z) × Same (value x') (value z))) (sym f) (λ t. (k, h.0 t), λ p. h.1 p.1))
