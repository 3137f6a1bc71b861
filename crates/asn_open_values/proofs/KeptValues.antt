-- Open values that are the same, by what is kept of them.
use Rattle.std.proofs.Common.{Bool, List, None, Option, Some, ap, sym, ◌∙◌, ◌≡◌, ℕ}
use Rattle.std.specs.Prelude.{IsTrue, ◌↔◌}
use Rattle.x690.specs.DerTexts.{der}
use Rattle.x690.specs.Layouts.{universal}
use Rattle.x690.specs.Values.{Leaf, Same}
use Rattle.x690_laws.proofs.ValuesOfTrees.{same_of}
use Rattle.x690_laws.proofs.TextsAsLayouts.{canonical}
use Rattle.asn_open_values.specs.KeptValues.{identifier_kept, text_kept}
use Rattle.asn_open_values.specs.OpenValues.{open_value_of}
use Rattle.asn_open_values.specs.TextValues.{open_value}
use Rattle.asn_open_values.specs.declared.any.Any.{Any}
use Rattle.asn_open_values.specs.declared.any.KeptContents.TheVariants.{Identifier}
use Rattle.asn_open_values.proofs.TextValues.{identifier_same}

-- they have one text
pub by_texts : (x y : Any) → text_kept x.kept ≡ text_kept y.kept ↔ Same (open_value_of x) (open_value_of y)
by_texts x y = (
  λ e. same_of (open_value_of x) (open_value_of y) (ap open_value e),
  λ s. sym x.whole ∙ (canonical (open_value_of x) (open_value_of y) s ∙ y.whole),
)

-- and one identifier, or none
pub one_identifier : (x y : Any) → Same (open_value_of x) (open_value_of y)
    → identifier_kept x.kept ≡ identifier_kept y.kept
one_identifier x y s =
    x.identified ∙ (identifier_same (open_value_of x) (open_value_of y) s ∙ sym y.identified)

abbrev identifier_or : List ℕ → Option (List ℕ) → List ℕ
identifier_or a (Some b) = b
identifier_or a None = a

pub identifiers_same : (x y : Any) (a b : List ℕ) (r : Bool) → x.kept ≡ Identifier a → y.kept ≡ Identifier b
    → IsTrue r ↔ (a ≡ b) → IsTrue r ↔ Same (open_value_of x) (open_value_of y)
identifiers_same x y a b r i j e = (
  λ t. (by_texts x y).0 (ap text_kept i ∙ (ap (λ o. der (Leaf (universal 6) o)) (e.0 t) ∙ sym (ap text_kept j))),
  λ s. e.1 (ap (identifier_or a) (sym (ap identifier_kept i) ∙ (one_identifier x y s ∙ ap identifier_kept j))),
)

pub texts_same : (x y : Any) (a b : List ℕ) (r : Bool) → text_kept x.kept ≡ a → text_kept y.kept ≡ b
    → IsTrue r ↔ (a ≡ b) → IsTrue r ↔ Same (open_value_of x) (open_value_of y)
texts_same x y a b r i j e = (
  λ t. (by_texts x y).0 (i ∙ (e.0 t ∙ sym j)),
  λ s. e.1 (sym i ∙ ((by_texts x y).1 s ∙ j)),
)

-- an identifier is no other value
pub differ : (x y : Any) (a : List ℕ) → identifier_kept x.kept ≡ Some a → identifier_kept y.kept ≡ None
    → Same (open_value_of x) (open_value_of y) → ⊥
differ x y a i j s = let e : Some a ≡ None = sym i ∙ (one_identifier x y s ∙ j) in cc

pub differ_too : (x y : Any) (b : List ℕ) → identifier_kept x.kept ≡ None → identifier_kept y.kept ≡ Some b
    → Same (open_value_of x) (open_value_of y) → ⊥
differ_too x y b i j s = let e : None ≡ Some b = sym i ∙ (one_identifier x y s ∙ j) in cc
