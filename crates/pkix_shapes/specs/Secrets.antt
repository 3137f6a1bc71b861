-- What is private in a type, and where that is in the documents of each kind.
use Rattle.std.specs.Prelude.{List, [], map, suc, ℕ, ◌++◌, ◌∷◌}
use Rattle.pkix_shapes.specs.declared.shape.Fields.{Default', Required', End, Fields, Optional'}
use Rattle.pkix_shapes.specs.declared.shape.Shape.{Choice', Containing', DefinedBy', Leaf, ListOf', Named', Open, Private', Refused, Sequence', SetOf', Shape}
use Rattle.pkix_shapes.specs.Paths.{Path}

-- the paths, one step longer at their beginning
abbrev pub after_step : ℕ → List Path → List Path
after_step step paths = map (λ path. step ∷ path) paths

abbrev mutual
  -- the paths to what is marked as private; 0 is the step to each member of a list or set
  pub private_paths : Shape → List Path
  private_paths (Leaf tag contents) = []
  private_paths Open = []
  private_paths (ListOf' tag least p shape) = after_step 0 (private_paths shape)
  private_paths (SetOf' tag least p shape) = after_step 0 (private_paths shape)
  private_paths (Sequence' tag p fields) = private_fields 0 fields
  private_paths (Containing' tag p shape) = after_step 0 (private_paths shape)
  private_paths (Refused tag) = []
  private_paths (DefinedBy' path identifiers p first q second) = private_paths first ++ private_paths second
  private_paths (Choice' p first q second) = private_paths first ++ private_paths second
  private_paths (Named' name p shape) = private_paths shape
  private_paths (Private' p shape) = [] ∷ []

  -- of the fields of a SEQUENCE from the one of this number on
  pub private_fields : ℕ → Fields → List Path
  private_fields number End = []
  private_fields number (Required' name p shape q fields) =
      after_step number (private_paths shape) ++ private_fields (suc number) fields
  private_fields number (Optional' name p shape q fields) =
      after_step number (private_paths shape) ++ private_fields (suc number) fields
  private_fields number (Default' name contents p shape q fields) =
      after_step number (private_paths shape) ++ private_fields (suc number) fields

-- privateKey (RFC 5915 section 3)
abbrev pub of_ec_key : List Path
of_ec_key = (1 ∷ []) ∷ []

-- prime, exponent, coefficient (RFC 8017 A.1.2)
abbrev pub of_other_prime : List Path
of_other_prime = (0 ∷ []) ∷ (1 ∷ []) ∷ (2 ∷ []) ∷ []

-- all after modulus and publicExponent: privateExponent, prime1, prime2, exponent1, exponent2, coefficient, and each
-- of otherPrimeInfos (RFC 8017 A.1.2)
abbrev pub of_rsa_key : List Path
of_rsa_key =
    (3 ∷ []) ∷ (4 ∷ []) ∷ (5 ∷ []) ∷ (6 ∷ []) ∷ (7 ∷ []) ∷ (8 ∷ [])
    ∷ after_step 9 (after_step 0 of_other_prime)

-- each value of an attribute
abbrev pub of_attribute : List Path
of_attribute = (1 ∷ 0 ∷ []) ∷ []

-- privateKey, as what it contains says: of an EC key, a key of RFC 8410, an RSA key, and any other one; the values of
-- attributes (RFC 5958 section 2)
abbrev pub of_key : List Path
of_key =
    after_step 2 (after_step 0 of_ec_key ++ ((0 ∷ []) ∷ after_step 0 of_rsa_key ++ ([] ∷ [])))
    ++ after_step 3 (after_step 0 of_attribute)

abbrev pub of_package : List Path
of_package = after_step 0 of_key

-- encryptedData (RFC 5958 section 3)
abbrev pub of_encrypted_key : List Path
of_encrypted_key = (1 ∷ []) ∷ []

-- in certificationRequestInfo the values of attributes other than extensionRequest (RFC 2986 section 4.1)
abbrev pub of_request : List Path
of_request = after_step 0 (after_step 3 (after_step 0 of_attribute))
