-- Open values in DER.
use Rattle.std.proofs.Common.{◌≡◌, ◌∙◌, ◌+◌, ◌++◌, ◌-◌, ◌<◌, ◌⊎◌, Bool, List, [], ap, arith, false, inl, inr, length, refl, subst, sym, take, true, ℕ}
use Rattle.std.specs.Cmp.Lexicographic.{slice_cmp}
use Rattle.std.specs.Ordering.{is_lt, nat_cmp}
use Rattle.tlv_core.specs.Identifier.{IsTag, Tag}
use Rattle.x690.specs.Contents.{LeafContents, LeafKind}
use Rattle.x690.specs.DerTexts.{der, der_element}
use Rattle.x690.specs.Fitting.{Fits}
use Rattle.x690.specs.Layouts.{Constructed, LaidOut, Primitive, RawTree, tree_tag}
use Rattle.x690.specs.OpenValues.{FitsOpen, OpenLeaf, OpenPlain, OpenSequence, OpenSetOf, open_form}
use Rattle.x690.specs.TypeTerms.{LeafType, OpenType, SequenceOfType, SetOfType}
use Rattle.x690.specs.Values.{Leaf, Value, members}
use Rattle.x690_laws.proofs.TextsAsTrees.{element_definite}
use Rattle.x690_laws.proofs.TextsSpell.{open_sequence_is, open_set_is}
use Rattle.asn_elements.specs.InDer.{BeginsInDer}
use Rattle.asn_elements.specs.MembersInDer.{AreMembers}
use Rattle.x690.specs.ReadContents.{der_contents, is_contents}
use Rattle.asn_elements.proofs.InDerTexts.{leaf_stands}
use Rattle.asn_elements.proofs.MembersInDer.{GoesOn, are_members, goes_on_all, goes_on_first, goes_on_next, no_members, sequence_of_begins, set_of_begins}
use Rattle.asn_open_values.specs.OpenInDer.{AreContents, AreOpenMembers, container_type}

-- leaves

leaf_fits : (own : Tag) (kind : LeafKind) (tree : RawTree) (v : Value) → open_form own ≡ OpenLeaf kind
    → tree_tag tree ≡ own → (octets : List ℕ) → LeafContents kind tree octets → v ≡ Leaf own octets → FitsOpen tree v
unfolding FitsOpen
leaf_fits own kind (Primitive t o) v form tag octets contents is = inl record {
  kind = kind;
  octets = octets;
  taken = ap open_form tag ∙ form;
  contents = contents;
  is = is ∙ ap (λ t. Leaf t octets) (sym tag);
}
leaf_fits own kind (Constructed t trees) v form tag octets contents is = inl record {
  kind = kind;
  octets = octets;
  taken = ap open_form tag ∙ form;
  contents = contents;
  is = is ∙ ap (λ t. Leaf t octets) (sym tag);
}

pub open_leaf : (limit left : ℕ) (own : Tag) (kind : LeafKind) (octets contents rest : List ℕ)
    → open_form own ≡ OpenLeaf kind → IsTag own → octets ≡ der_element own false contents ++ rest
    → length contents < 16777216 → is_contents kind contents ≡ true → der_contents kind contents ≡ contents
    → BeginsInDer limit left OpenType octets rest
unfolding Fits
open_leaf limit left own kind octets contents rest form tag is small h same =
    let b = leaf_stands limit left own kind octets contents rest tag is small h same in (
      b.0,
      λ earlier.
          let s = b.1 earlier in
          record {
            is = s.is;
            tree = s.tree;
            laid_out = s.laid_out;
            depth_fits = s.depth_fits;
            fits = leaf_fits own kind s.tree b.0 form s.fits.0 s.fits.1 s.fits.2 s.fits.3;
          },
    )

-- the octets of a primitive element of another class
pub open_octets_begin : (limit left : ℕ) (own : Tag) (octets contents rest : List ℕ) → open_form own ≡ OpenPlain
    → IsTag own → octets ≡ der_element own false contents ++ rest → length contents < 16777216
    → BeginsInDer limit left OpenType octets rest
unfolding der Fits FitsOpen LaidOut
open_octets_begin limit left own octets contents rest form tag is small = (
  Leaf own contents,
  λ earlier. record {
    is = is;
    tree = Primitive own contents;
    laid_out = (tag, element_definite own false contents (omega arith));
    depth_fits = omega arith;
    fits = inr (form, refl);
  },
)

-- containers

pub open_sequence_begins : (limit left : ℕ) (own : Tag) (octets rest : List ℕ)
    → (open_form own ≡ OpenSequence) ⊎ (open_form own ≡ OpenPlain)
    → BeginsInDer limit left (SequenceOfType own 0 OpenType) octets rest → BeginsInDer limit left OpenType octets rest
unfolding Fits FitsOpen
open_sequence_begins limit left own octets rest form b = (
  b.0,
  λ earlier.
      let s = b.1 earlier in
      let f = s.fits in
      record {
        is = s.is;
        tree = s.tree;
        laid_out = s.laid_out;
        depth_fits = s.depth_fits;
        fits =
            subst (λ t. FitsOpen t b.0) (sym f.2)
            (inr (inl (f.1, form, f.3, open_sequence_is f.0 (members f.1) f.5)));
      },
)

pub open_set_begins : (limit left : ℕ) (own : Tag) (octets rest : List ℕ) → open_form own ≡ OpenSetOf
    → BeginsInDer limit left (SetOfType own 0 OpenType) octets rest → BeginsInDer limit left OpenType octets rest
unfolding Fits FitsOpen
open_set_begins limit left own octets rest form b = (
  b.0,
  λ earlier.
      let s = b.1 earlier in
      let f = s.fits in
      record {
        is = s.is;
        tree = s.tree;
        laid_out = s.laid_out;
        depth_fits = s.depth_fits;
        fits =
            subst (λ t. FitsOpen t b.0) (sym f.2)
            (inr (inr (f.1, form, f.3, open_set_is f.0 (members f.1) f.5)));
      },
)

pub open_container : (is_set : Bool) (limit left : ℕ) (own : Tag) (octets contents rest : List ℕ)
    → IsTag own → octets ≡ der_element own true contents ++ rest → length contents < 16777216
    → AreContents is_set limit left contents → BeginsInDer limit left (container_type is_set own) octets rest
open_container true limit left own octets contents rest tag is small m =
    set_of_begins limit m.0 left own false OpenType octets contents rest tag is small m.1 (omega arith) m.2
open_container false limit left own octets contents rest tag is small m =
    sequence_of_begins limit m.0 left own false OpenType octets contents rest tag is small m.1 (omega arith) m.2

-- members

-- what is to be shown of the octets follows from the members in the rest, where in a SET OF they go on with the order
abbrev pub OpenGoesOn : Bool → ℕ → ℕ → List ℕ → List ℕ → List ℕ → Type 0
OpenGoesOn true limit left octets rest before = GoesOn limit left OpenType octets rest before
OpenGoesOn false limit left octets rest before =
    AreMembers limit left OpenType rest → AreMembers limit left OpenType octets

pub open_first : (is_set : Bool) (limit left : ℕ) (octets : List ℕ) → OpenGoesOn is_set limit left octets octets []
open_first true limit left octets = goes_on_first limit left OpenType octets
open_first false limit left octets = λ m. m

pub open_next_in_set : (is_set : Bool) (limit left : ℕ) (octets rest behind before text : List ℕ) → is_set ≡ true
    → OpenGoesOn is_set limit left octets rest before → BeginsInDer limit left OpenType rest behind
    → text ≡ take (length rest - length behind) rest → is_lt (slice_cmp nat_cmp text before) ≡ false
    → OpenGoesOn is_set limit left octets behind text
open_next_in_set true limit left octets rest behind before text set g b cut order =
    goes_on_next limit left OpenType octets rest behind before text g b cut order
open_next_in_set false limit left octets rest behind before text set g b cut order = absurd cc

pub open_next_in_sequence : (is_set : Bool) (limit left : ℕ) (octets rest behind before : List ℕ) → is_set ≡ false
    → OpenGoesOn is_set limit left octets rest before → BeginsInDer limit left OpenType rest behind
    → OpenGoesOn is_set limit left octets behind before
open_next_in_sequence true limit left octets rest behind before row g b = absurd cc
open_next_in_sequence false limit left octets rest behind before row g b =
    λ m. g (are_members limit left OpenType rest behind b m)

pub open_all : (is_set : Bool) (limit left : ℕ) (octets before : List ℕ)
    → OpenGoesOn is_set limit left octets [] before → AreOpenMembers is_set limit left octets
open_all true limit left octets before g = goes_on_all limit left OpenType octets before g
open_all false limit left octets before g = g ([], no_members limit left OpenType)
