-- The tag of a field that was read is one of its type.
use Rattle.std.proofs.Common.{◌≡◌, ◌∙◌, ◌||◌, ℕ, Bool, List, [], Option, Some, ap, ap₂, false, refl, sym, subst, true, ⊎_elim}
use Rattle.tlv_core.specs.Identifier.{Tag}
use Rattle.x690.specs.Fitting.{Fits}
use Rattle.x690.specs.Layouts.{Constructed, Primitive, RawTree, tree_tag}
use Rattle.x690.specs.OpenValues.{FitsOpen}
use Rattle.x690.specs.ReadTypes.{read_type}
use Rattle.x690.specs.ReadHeaders.{ElementStands}
use Rattle.x690.specs.Reads.{Said}
use Rattle.x690.specs.TypeTerms.{ChoiceType, ContainingType, DefinedByType, LeafType, OpenType, RefusedType, RuledType, SequenceOfType, SequenceType, SetOfType, TypeTerm, fits_tag}
use Rattle.x690.specs.Values.{Same, Value, value_tag}
use Rattle.x690_laws.proofs.TextsSpell.{begins_fits}
use Rattle.x690_laws.proofs.ReadingSound.{type_took}
use Rattle.x690_laws.proofs.TextsAsLayouts.{canonical}
use Rattle.asn_fields.specs.Insides.{BeginsBefore}
use Rattle.ber_pull.specs.Hears.{Hears}
use Rattle.ber_pull.specs.Standing.{Standing, enclosing}
use Rattle.ber_pull.proofs.Hearing.{hears_given}
use Rattle.asn_fields.specs.ApartLaws.{text_tag}
use Rattle.asn_fields.specs.Apart.{may_begin}
use Rattle.asn_fields.specs.Fields.{may_stand}

open_tagged : (r : RawTree) (v : Value) → FitsOpen r v → tree_tag r ≡ value_tag v
unfolding FitsOpen
open_tagged (Primitive t c) v h = ⊎_elim (λ a. sym (ap value_tag a.is)) (λ a. sym (ap value_tag a.1)) h
open_tagged (Constructed t rs) v h =
    ⊎_elim (λ a. sym (ap value_tag a.is)) (λ b. ⊎_elim (λ a. sym (ap value_tag a.2)) (λ a. sym (ap value_tag a.2)) b) h

-- a tree and the value that it says have one tag
fits_tagged : (d : ℕ) (T : TypeTerm) (earlier : List Value) (r : RawTree) (v : Value) → Fits d T earlier r v
    → tree_tag r ≡ value_tag v
unfolding Fits
fits_tagged d (LeafType t k) earlier r v h = h.0 ∙ sym (ap value_tag h.3)
fits_tagged d OpenType earlier r v h = open_tagged r v h
fits_tagged d (SequenceOfType t n T) earlier r v h = ap tree_tag h.2 ∙ sym (ap value_tag h.3)
fits_tagged d (SetOfType t n T) earlier r v h = ap tree_tag h.2 ∙ sym (ap value_tag h.3)
fits_tagged d (SequenceType t fs) earlier r v h = ap tree_tag h.2 ∙ sym (ap value_tag h.3)
fits_tagged d (ContainingType t q T) earlier r v h = h.0 ∙ sym (ap value_tag h.8)
fits_tagged d (RuledType p T) earlier r v h = fits_tagged d T earlier r v h.1
fits_tagged d (RefusedType t w) earlier r v h = absurd h
fits_tagged d (DefinedByType p os A B) earlier r v h =
    ⊎_elim (λ a. fits_tagged d A earlier r v a.1) (λ a. fits_tagged d B earlier r v a.1) h
fits_tagged d (ChoiceType A B) earlier r v h =
    ⊎_elim (λ a. fits_tagged d A earlier r v a.1) (λ a. fits_tagged d B earlier r v a.1) h

fits_may : (T : TypeTerm) (tag : Tag) → fits_tag T tag ≡ may_begin T tag
unfolding fits_tag
fits_may (LeafType own kind) tag = refl
fits_may OpenType tag = refl
fits_may (SequenceOfType own least T) tag = refl
fits_may (SetOfType own least T) tag = refl
fits_may (SequenceType own fields) tag = refl
fits_may (ContainingType own rule T) tag = refl
fits_may (RefusedType own why) tag = refl
fits_may (RuledType rule T) tag = fits_may T tag
fits_may (DefinedByType path octets A B) tag = ap₂ (λ a b. a || b) (fits_may A tag) (fits_may B tag)
fits_may (ChoiceType A B) tag = ap₂ (λ a b. a || b) (fits_may A tag) (fits_may B tag)

-- one that begins as the type may stands there
pub stands_there : (T : TypeTerm) (n : Option (Tag × Bool)) (t : Tag × Bool) → n ≡ Some t → fits_tag T t.0 ≡ true
    → may_stand T n ≡ false → ⊥
stands_there T n t is on off = let turned : true ≡ false = sym on ∙ sym (ap (may_stand T) is) ∙ off in cc

-- after any earlier fields
pub field_tagged : (T : TypeTerm) (earlier : List Value) (s : Standing) (p : ℕ) (t : Tag) (form : Bool)
    (v w : Value) (q : ℕ) (o u : Option (List ℕ))
    → BeginsBefore s (ElementStands p t form)
    → Hears (read_type s.limits T earlier (enclosing s) p t form) s.taken o (Said v) q u → Same v w
    → may_begin T (value_tag w) ≡ true
field_tagged T earlier s p t form v w q o u b x same =
    let given = hears_given (read_type s.limits T earlier (enclosing s) p t form) v s.taken q o u x in
    let fits = b.0 in
    let laid =
    type_took s.limits T earlier (enclosing s) v p t form s.taken given.0 q [] fits.is_tag fits.depth_fits given.2 in
    let tag : tree_tag laid.tree ≡ value_tag w =
    fits_tagged s.limits.depth T earlier laid.tree v laid.fact ∙ text_tag v w (canonical v w same) in
    sym (fits_may T (value_tag w))
    ∙ subst (λ z. fits_tag T z ≡ true) tag (begins_fits s.limits.depth T earlier laid.tree v laid.fact)
