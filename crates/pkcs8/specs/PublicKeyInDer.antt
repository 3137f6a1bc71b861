-- publicKey among the fields of a OneAsymmetricKey, in octets in DER.
use Rattle.std.specs.Prelude.{Bool, List, length, not, true, ℕ, ◌==◌, ◌≡◌}
use Rattle.x690.specs.DerTexts.{texts_of}
use Rattle.x690.specs.Layouts.{context_specific}
use Rattle.x690.specs.Values.{Value}
use Rattle.pkix_definitions.specs.Rules.{with_tag}

abbrev pub has_key : List Value → Bool
has_key values = not (length (with_tag (context_specific 1) values) == 0)

-- The octets are the texts of values of which one has the tag [1], if they are texts of values.
abbrev pub HasPublicKey : List ℕ → Type 0
HasPublicKey octets = (values : List Value) → octets ≡ texts_of values → has_key values ≡ true
