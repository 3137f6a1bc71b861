-- Types whose elements are told by one tag.
use Rattle.std.specs.Prelude.{refl, ℕ, ◌≡◌}
use Rattle.tlv_core.specs.Identifier.{Tag}
use Rattle.x690.specs.Contents.{LeafKind}
use Rattle.x690.specs.Layouts.{same_tag}
use Rattle.x690.specs.TypeTerms.{LeafType, SetOfType, TypeTerm, fits_tag}

pub leaf_fits : (kind : LeafKind) (own tag : Tag) → fits_tag (LeafType own kind) tag ≡ same_tag own tag
unfolding fits_tag
leaf_fits kind own tag = refl

pub set_of_fits : (least : ℕ) (type : TypeTerm) (own tag : Tag)
    → fits_tag (SetOfType own least type) tag ≡ same_tag own tag
unfolding fits_tag
set_of_fits least type own tag = refl
