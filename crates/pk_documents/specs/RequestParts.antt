-- The parts of a certification request.
use Rattle.std.specs.Prelude.{ℕ, List, [], ◌++◌, ◌∷◌, ◌≡◌, drop, slice_get}
use Rattle.std.specs.Option.{option_map_or}
use Rattle.x690.specs.DerTexts.{der}
use Rattle.x690.specs.Values.{Value, leaf_at, sequence_members}
use Rattle.pk_documents.specs.declared.request_part.Part.{Part}
use Rattle.pk_documents.specs.declared.request_part.Part.TheVariants.{Algorithm, Info, Key, Signature}

-- the DER text of the value at a path: the member of a sequence at its first number, counted from 0, and on inside that
-- member; nothing where none stands there
abbrev pub text_at : List ℕ → Value → List ℕ
text_at [] value = der value
text_at (i ∷ path) value = option_map_or (text_at path) (slice_get (sequence_members value) i) []

-- By the order of CertificationRequest and CertificationRequestInfo. The contents of a BIT STRING begin with the
-- number of its unused bits.
abbrev pub part_of : Part → Value → List ℕ
part_of Info request = text_at (0 ∷ []) request
part_of Algorithm request = text_at (1 ∷ []) request
part_of Key request = text_at (0 ∷ 2 ∷ []) request
part_of Signature request = drop 1 (leaf_at (2 ∷ []) (sequence_members request))

-- These octets stand in the text, one after another.
abbrev pub StandsIn : List ℕ → List ℕ → Type 0
StandsIn part text = (before : List ℕ) × (after : List ℕ) × (text ≡ before ++ (part ++ after))

-- Each part of a request is a part of the request's own DER text.
abbrev pub PartsStandInTheText : Type 0
PartsStandInTheText = (part : Part) (request : Value) → StandsIn (part_of part request) (der request)
