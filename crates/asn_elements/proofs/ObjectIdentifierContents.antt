-- The contents of object identifiers.
use Rattle.std.proofs.Common.{◌≡◌, List, refl, true, ℕ}
use Rattle.tlv_core.specs.ObjectIdentifier.{IsObjectIdentifier}
use Rattle.x690.specs.Contents as kinds
use Rattle.x690.specs.Contents.{LeafContents}
use Rattle.x690.specs.Layouts.{universal}
use Rattle.x690.specs.ReadContents.{is_object_identifier}
use Rattle.x690_laws.proofs.ReadingOfLayouts.{contents_on}
use Rattle.x690_laws.proofs.ReadingLeavesSound.{contents_fit}

pub identifier_on : (o : List ℕ) → IsObjectIdentifier o → is_object_identifier o ≡ true
unfolding LeafContents
identifier_on o h = contents_on kinds.ObjectIdentifier (universal 6) o o (h, refl)

pub identifier_from : (o : List ℕ) → is_object_identifier o ≡ true → IsObjectIdentifier o
unfolding LeafContents
identifier_from o h = (contents_fit kinds.ObjectIdentifier (universal 6) o h).0
