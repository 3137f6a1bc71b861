-- The names of the fields in a type, and those in the documents of each kind.
use Rattle.std.specs.Prelude.{List, [], codes, ℕ, ◌++◌, ◌∷◌}
use Rattle.pkix_shapes.specs.declared.shape.Fields.{Default', Required', End, Fields, Optional'}
use Rattle.pkix_shapes.specs.declared.shape.Shape.{Choice', Containing', DefinedBy', Leaf, ListOf', Named', Open, Private', Refused, Sequence', SetOf', Shape}

abbrev mutual
  -- the names of all fields in a type, in their order: each before those in its own type
  pub names_in : Shape → List (List ℕ)
  names_in (Leaf tag contents) = []
  names_in Open = []
  names_in (ListOf' tag least p shape) = names_in shape
  names_in (SetOf' tag least p shape) = names_in shape
  names_in (Sequence' tag p fields) = names_of fields
  names_in (Containing' tag p shape) = names_in shape
  names_in (Refused tag) = []
  names_in (DefinedBy' path identifiers p first q second) = names_in first ++ names_in second
  names_in (Choice' p first q second) = names_in first ++ names_in second
  names_in (Named' name p shape) = names_in shape
  names_in (Private' p shape) = names_in shape

  pub names_of : Fields → List (List ℕ)
  names_of End = []
  names_of (Required' name p shape q fields) = name.now ∷ names_in shape ++ names_of fields
  names_of (Optional' name p shape q fields) = name.now ∷ names_in shape ++ names_of fields
  names_of (Default' name contents p shape q fields) = name.now ∷ names_in shape ++ names_of fields

-- of AlgorithmIdentifier (RFC 5280 section 4.1.1.2)
abbrev pub in_algorithm : List (List ℕ)
in_algorithm = codes "algorithm" ∷ codes "parameters" ∷ []

-- of SubjectPublicKeyInfo (RFC 5280 section 4.1.2.7)
abbrev pub in_public_key : List (List ℕ)
in_public_key = codes "algorithm" ∷ in_algorithm ++ codes "subjectPublicKey" ∷ []

-- of EncryptedPrivateKeyInfo (RFC 5958 section 3)
abbrev pub in_encrypted_key : List (List ℕ)
in_encrypted_key = codes "encryptionAlgorithm" ∷ in_algorithm ++ codes "encryptedData" ∷ []

-- of ECPrivateKey (RFC 5915 section 3); a field under an explicit tag has no name of its own
abbrev pub in_ec_key : List (List ℕ)
in_ec_key =
    codes "version" ∷ codes "privateKey" ∷ codes "parameters" ∷ [] ∷ codes "publicKey" ∷ [] ∷ []

-- of OtherPrimeInfo (RFC 8017 A.1.2)
abbrev pub in_other_prime : List (List ℕ)
in_other_prime = codes "prime" ∷ codes "exponent" ∷ codes "coefficient" ∷ []

-- of RSAPrivateKey (RFC 8017 A.1.2)
abbrev pub in_rsa_key : List (List ℕ)
in_rsa_key =
    codes "version" ∷ codes "modulus" ∷ codes "publicExponent" ∷ codes "privateExponent" ∷ codes "prime1"
    ∷ codes "prime2"
    ∷ codes "exponent1" ∷ codes "exponent2" ∷ codes "coefficient" ∷ codes "otherPrimeInfos" ∷ in_other_prime

-- of Attribute (RFC 5958 section 2)
abbrev pub in_attribute : List (List ℕ)
in_attribute = codes "type" ∷ codes "values" ∷ []

-- of OneAsymmetricKey (RFC 5958 section 2); after privateKey those of what it contains
abbrev pub in_key : List (List ℕ)
in_key =
    codes "version" ∷ codes "privateKeyAlgorithm" ∷ in_algorithm ++ codes "privateKey" ∷ in_ec_key ++ in_rsa_key
    ++ codes "attributes" ∷ in_attribute ++ codes "publicKey" ∷ []

-- of Extension (RFC 5280 section 4.1)
abbrev pub in_extension : List (List ℕ)
in_extension = codes "extnID" ∷ codes "critical" ∷ codes "extnValue" ∷ []

-- of CertificationRequest (RFC 2986 section 4); after subject those of AttributeTypeAndValue (RFC 5280 section 4.1.2.4)
abbrev pub in_request : List (List ℕ)
in_request =
    codes "certificationRequestInfo" ∷ codes "version" ∷ codes "subject" ∷ codes "type" ∷ codes "value"
    ∷ codes "subjectPKInfo" ∷ in_public_key ++ codes "attributes" ∷ in_attribute ++ in_extension
    ++ codes "signatureAlgorithm" ∷ in_algorithm ++ codes "signature" ∷ []
