-- The octets of certificationRequestInfo as they came in a certification request (RFC 2986 section 4), in DER or not.
use Rattle.std.specs.Prelude.{List, Some, [], drop, length, slice_get, true, ℕ, ◌++◌, ◌-◌, ◌∷◌, ◌≡◌, ◌↔◌, ◌⊎◌}
use Rattle.tlv_core.specs.Identifier.{identifier}
use Rattle.tlv_core.specs.Length.{SpellsLength}
use Rattle.tlv_core.specs.Limits.{Limits}
use Rattle.tlv_core.specs.declared.fault.ReadError.{ReadError}
use Rattle.tlv_core.specs.declared.fault.ReadError.TheVariants.{Fault, Memory, Read}
use Rattle.x690.specs.Answers.{Spelled, answer}
use Rattle.x690.specs.Fitting.{Spells}
use Rattle.x690.specs.Layouts.{universal}
use Rattle.x690.specs.Values.{Value, sequence_members}
use Rattle.pkix_definitions.specs.DocumentTypes.{CertificationRequest, CertificationRequestInfo}
use Rattle.pk_documents.specs.RequestParts.{part_of}
use Rattle.pk_documents.specs.declared.request_part.Part.TheVariants.{Info}
use Rattle.explain.specs.Answers.{IsRefused}

-- The octets are a request: its identifier octets, its length octets, the part, and what stands behind that. The part
-- is one element of the type CertificationRequestInfo, the first member of the request.
pub record Received (limits : Limits) (octets part : List ℕ) : Type 0 where
  pub request : Value
  pub is_request : Spells limits CertificationRequest request octets
  pub length_octets : List ℕ
  pub behind : List ℕ
  pub is : octets ≡ identifier (universal 16) true ++ (length_octets ++ (part ++ behind))
  -- a definite length, or the octet 80 of an indefinite one (X.690 8.1.3)
  pub has_length : SpellsLength (length (part ++ behind)) length_octets ⊎ (length_octets ≡ 128 ∷ [])
  pub info : Value
  pub is_info : Spells limits CertificationRequestInfo info part
  pub is_first : slice_get (sequence_members request) 0 ≡ Some info

-- Why there is none: the octets are refused as a request, or memory ran out.
abbrev pub NotReceived : Limits → List ℕ → ReadError → Type 0
NotReceived limits octets (Fault found) = IsRefused limits CertificationRequest octets found
NotReceived limits octets (Read at) = ⊥
NotReceived limits octets Memory = Unit {0}

-- What stands behind one identifier octet and the length octets. The first length octet says from 81 on how many more
-- there are (X.690 8.1.3.5).
abbrev pub behind_header : List ℕ → List ℕ
behind_header [] = []
behind_header (identifier ∷ []) = []
behind_header (identifier ∷ first ∷ octets) = drop (first - 128) octets

-- The part is the same within all limits. It is what RFC 2986 has signed, the DER encoding of
-- certificationRequestInfo, exactly where it is in DER.
pub record ReceivedOfRequests : Type 0 where
  pub one : (limits limits' : Limits) (octets part other : List ℕ) → Received limits octets part
      → Received limits' octets other → part ≡ other
  pub in_der : (limits : Limits) (octets part : List ℕ) (request : Value)
      → Spells limits CertificationRequest request octets → Received limits octets part
      → (part ≡ part_of Info request) ↔ (answer limits CertificationRequestInfo part ≡ Spelled part (length part))
