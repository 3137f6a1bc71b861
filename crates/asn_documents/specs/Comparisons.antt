-- What is seen of a target that compares.
use Rattle.std.specs.Prelude.{ℕ, Bool, List, [], ◌∷◌, ◌++◌, None, Option, Some, length, take}
use Rattle.asn_documents.specs.declared.difference.Comparing.{Comparing}

abbrev pub the_octet : Option ℕ → List ℕ
the_octet None = []
the_octet (Some octet) = octet ∷ []

-- what was written
abbrev pub written : Comparing → List ℕ
written target = take target.at target.octets.now ++ the_octet target.other

abbrev pub compared_with : Comparing → List ℕ
compared_with target = target.octets.now

-- The octets stand before what was written, and their number before them: so whoever knows the contents knows that the
-- octets are still the same.
abbrev pub told : Comparing → List ℕ
told target = length target.octets.now ∷ (target.octets.now ++ written target)

abbrev pub has_halted : Comparing → Bool
has_halted target = target.failed
