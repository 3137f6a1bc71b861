-- The plain reading of character strings and times: by the tag, and then as a leaf of that tag.
use Rattle.std.proofs.Common.{◌≡◌, ◌∙◌, ◌||◌, Bool, List, [], ◌∷◌, ap, ap₂, false, map, refl, true, ℕ}
use Rattle.tlv_core.specs.Identifier.{Tag}
use Rattle.tlv_core.specs.declared.fault.Fault.{Fault}
use Rattle.tlv_core.specs.declared.reason.Reason.TheVariants.{WrongTag}
use Rattle.x690.specs.Contents.{LeafKind, OctetString, Utf8String}
use Rattle.x690.specs.Layouts.{same_tag, universal}
use Rattle.x690.specs.Points.{fault}
use Rattle.x690.specs.ReadTypes.{read_type}
use Rattle.x690.specs.Reading.{Reading, choose, require}
use Rattle.x690.specs.StringTypes.{carried_string, string_types}
use Rattle.x690.specs.TypeTerms.{LeafType, choice_of, fits_tag}
use Rattle.x690.specs.Values.{Value}
use Rattle.x690_laws.proofs.ReadingLayoutsSound.{same_tag_is}
use Rattle.ber_pull.specs.Standing.{Standing}
use Rattle.ber_pull.specs.declared.state.Given.{Given}
use Rattle.asn_elements.specs.Reading.{read_given, read_given_leaf, string_kind}

-- one of two readings that fail alike, by a test that both of them make
chosen : {A : Type 0} (b c : Bool) (f : Fault) (p : Bool → Reading A)
    → choose b (require b f (p true)) (require c f (p false)) ≡ require (b || c) f (p b)
unfolding choose require
chosen true c f p = refl
chosen false c f p = refl

-- a leaf, by the tag that stands there
leaf_by_tag : (own : Tag) (kind : LeafKind) (s : Standing) (g : Given)
    → read_given (LeafType own kind) s g
    ≡ require (same_tag own g.tag) (fault g.at WrongTag) (read_given_leaf kind g.tag s g)
unfolding read_type require
leaf_by_tag own kind s g = go (same_tag own g.tag) refl
  where
    go : (b : Bool) → same_tag own g.tag ≡ b
        → require {A = Value} b (fault g.at WrongTag) (read_given_leaf kind own s g)
        ≡ require b (fault g.at WrongTag) (read_given_leaf kind g.tag s g)
    go true e = ap (λ t. read_given_leaf kind t s g) (same_tag_is own g.tag e)
    go false e = refl

-- one of those that are carried
carried_is : (number : ℕ) (others : List ℕ) (s : Standing) (g : Given)
    → read_given (choice_of (carried_string number) (map carried_string others)) s g
    ≡ require (fits_tag (choice_of (carried_string number) (map carried_string others)) g.tag) (fault g.at WrongTag)
    (read_given_leaf OctetString g.tag s g)
unfolding read_type fits_tag
carried_is number [] s g = leaf_by_tag (universal number) OctetString s g
carried_is number (other ∷ others) s g =
    ap₂ (choose (same_tag (universal number) g.tag)) (leaf_by_tag (universal number) OctetString s g)
    (carried_is other others s g)
    ∙ chosen (same_tag (universal number) g.tag)
    (fits_tag (choice_of (carried_string other) (map carried_string others)) g.tag) (fault g.at WrongTag)
    (λ b. read_given_leaf OctetString g.tag s g)

pub string_is : (s : Standing) (g : Given)
    → read_given string_types s g
    ≡ require (fits_tag string_types g.tag) (fault g.at WrongTag)
    (read_given_leaf (string_kind (same_tag (universal 12) g.tag)) g.tag s g)
unfolding read_type fits_tag string_types
string_is s g =
    ap₂ (choose (same_tag (universal 12) g.tag)) (leaf_by_tag (universal 12) Utf8String s g)
    (carried_is 7 (18 ∷ 19 ∷ 20 ∷ 21 ∷ 22 ∷ 23 ∷ 24 ∷ 25 ∷ 26 ∷ 27 ∷ 28 ∷ 30 ∷ []) s g)
    ∙ chosen (same_tag (universal 12) g.tag) _ (fault g.at WrongTag) (λ b. read_given_leaf (string_kind b) g.tag s g)
