-- Where leaves stand in a container, by the numbers of its fields from 0 and on inside them; and
-- the contents of versions.
use Rattle.std.specs.Prelude.{List, [], ℕ, ◌∷◌}

-- a version, the algorithm of an AlgorithmIdentifier, the type of an attribute
abbrev pub first_field : List ℕ
first_field = 0 ∷ []

-- privateKey of an ECPrivateKey
abbrev pub second_field : List ℕ
second_field = 1 ∷ []

-- the algorithm in privateKeyAlgorithm of a OneAsymmetricKey
abbrev pub algorithm_of_key : List ℕ
algorithm_of_key = 1 ∷ 0 ∷ []

-- the parameters in it, where they are a leaf: the curve
abbrev pub curve_of_key : List ℕ
curve_of_key = 1 ∷ 1 ∷ []

-- the algorithm in algorithm of a SubjectPublicKeyInfo
abbrev pub algorithm_of_public_key : List ℕ
algorithm_of_public_key = 0 ∷ 0 ∷ []

-- the leaf under an explicit tag, among the fields with this tag
abbrev pub under_tag : List ℕ
under_tag = 0 ∷ 0 ∷ []

-- the INTEGERs 0 and 1
abbrev pub version_0 : List ℕ
version_0 = 0 ∷ []

abbrev pub version_1 : List ℕ
version_1 = 1 ∷ []
