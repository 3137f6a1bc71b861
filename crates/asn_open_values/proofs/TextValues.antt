-- The DER text of an open value that was read says that value again.
use Rattle.std.proofs.Common.{◌≡◌, ◌∙◌, ◌+◌, ◌*◌, ◌/◌, ◌%◌, ◌==◌, ◌<◌, ◌≤◌, ℕ, zero, suc, Bool, false, true, cond, nat_lt, List, [], ◌∷◌, ◌++◌, Option, None, Some, IfSome, Err, Ok, Result, append-nil, ap, sym, subst, refl, length, arith, ⊎_elim}
use Rattle.std.proofs.lemmas.List.{length-append}
use Rattle.tlv_core.specs.Identifier.{IsTag, Tag, base128, identifier, leading_base128}
use Rattle.tlv_core.specs.Limits.{Limits}
use Rattle.tlv_core.specs.declared.fault.ReadError.{ReadError}
use Rattle.tlv_core.specs.declared.source.Source.{Ghosts}
use Rattle.x690.specs.DerTexts.{der}
use Rattle.x690.specs.Fitting.{Fits, Spells}
use Rattle.x690.specs.Layouts.{AllLaidOut, Constructed, FirstTree, LaidOut, NoTrees, Primitive, RawTree, RawTrees, same_tag, tree_depth, tree_tag, trees_depth, universal}
use Rattle.x690.specs.Contents.{ObjectIdentifier}
use Rattle.x690.specs.OpenValues.{FitsOpen, open_form}
use Rattle.x690.specs.Points.{Enclosing, outermost}
use Rattle.x690.specs.Premises.{Fair}
use Rattle.x690.specs.ReadContents.{read_open}
use Rattle.x690.specs.ReadTypes.{read_document, read_type}
use Rattle.x690.specs.Reads.{Said}
use Rattle.x690.specs.Takes.{Takes}
use Rattle.x690.specs.TypeTerms.{Distinct, OpenType}
use Rattle.x690.specs.Values.{Leaf, Same, Sequence, SetOf, Value, value_tag}
use Rattle.x690_laws.proofs.GrowthBounds.{growth}
use Rattle.x690_laws.proofs.LengthsOfHeaders.{definite_length, identifier_some, indefinite_length}
use Rattle.x690_laws.proofs.ReadingOfElements.{complete}
use Rattle.x690_laws.proofs.TextsSpell.{text_spells}
use Rattle.x690_laws.proofs.ReadingLayoutsSound.{Laid, same_tag_is}
use Rattle.x690_laws.proofs.ReadingSound.{open_took}
use Rattle.x690_laws.proofs.TextsAsLayouts.{canonical}
use Rattle.ber_pull.specs.Hears.{Hears}
use Rattle.ber_pull.specs.Standing.{IsGiven, Standing, enclosing}
use Rattle.ber_pull.specs.View.{Unmoved}
use Rattle.ber_pull.specs.declared.pull.Pull.{Pull}
use Rattle.ber_pull.specs.declared.state.Given.{Given}
use Rattle.ber_pull.proofs.Hearing.{hears_given}
use Rattle.asn_open_values.specs.TextValues.{identifier_in, open_value, value_given}
use Rattle.asn_elements.specs.Reading.{read_given, read_given_leaf}

mutual
  unfolding LaidOut

  -- a tree is nested no deeper than it has octets
  depth_within : (r : RawTree) (b : List ℕ) → LaidOut r b → tree_depth r ≤ length b
  depth_within (Primitive t o) b h = omega (arith, definite_length t false o b h.1, identifier_some t false)
  depth_within (Constructed t rs) b h = ⊎_elim
      (λ d. omega (arith, depths_within rs h.1.0 h.1.1, definite_length t true h.1.0 b d, identifier_some t true))
      (λ d. omega (arith, depths_within rs h.1.0 h.1.1, indefinite_length t h.1.0 b d, identifier_some t true))
      h.1.2

  depths_within : (rs : RawTrees) (c : List ℕ) → AllLaidOut rs c → trees_depth rs ≤ length c
  depths_within NoTrees c h = omega arith
  depths_within (FirstTree r rs) c h =
      omega (arith, depth_within r h.0 h.2, depths_within rs h.1 h.3, ap length h.4, length-append h.0 h.1)

-- The text says the value again.
pub record SaysAgain (v : Value) : Type 0 where
  pub same : Same v (open_value (der v))
  pub text : der (open_value (der v)) ≡ der v

abbrev as_long_as : List ℕ → Limits
as_long_as text = record { depth = length text; octets = length text }

says_again : (v w : Value) → Same v w → w ≡ open_value (der v) → SaysAgain v
says_again v w s e = record { same = subst (Same v) e s; text = ap der (sym e) ∙ sym (canonical v w s) }

text_takes : (v : Value) (r : RawTree) → LaidOut r (der v) → FitsOpen r v
    → Takes (as_long_as (der v)) OpenType [] outermost 0 (der v) v (length (der v)) []
unfolding Fits
text_takes v r l f = record {
  tree = r;
  octets = der v;
  is = sym (append-nil (der v));
  count = refl;
  laid_out = l;
  in_bound = refl;
  in_limit = omega arith;
  depth_fits = omega (arith, depth_within r (der v) l);
  fits = f;
}

-- of octets that are laid out as an open value, and whose text is short
pub text_says : (r : RawTree) (v : Value) (octets : List ℕ) → LaidOut r octets → FitsOpen r v
    → length octets < 1152921504606846976 → SaysAgain v
unfolding Fits Distinct Fair read_document open_value
text_says r v octets l f short =
    let g = growth 0 OpenType [] r v octets short l f in
    let limits : Limits = record { depth = tree_depth r; octets = 9223372036854775807 } in
    let spelled : Spells limits OpenType v octets = record {
      tree = r;
      depth_fits = omega arith;
      laid_out = l;
      fits = f;
      octets_fit = omega arith;
      text_fits = omega arith;
    } in
    let s = text_spells limits OpenType v octets tt (omega arith) spelled in
    let c = complete (as_long_as (der v)) OpenType [] outermost 0 (der v) v (length (der v)) [] tt (λ end e. cc)
    (text_takes v s.tree s.laid_out s.fits) in
    says_again v c.0 c.1 (sym (ap value_given c.2))

-- identifiers are short

digits_within : (steps n : ℕ) → length (leading_base128 steps n) ≤ steps
unfolding leading_base128
digits_within zero n = omega arith
digits_within (suc steps) n = go (n == 0) (digits_within steps (n / 128))
  where
    go : (b : Bool) → length (leading_base128 steps (n / 128)) ≤ steps
        → length {A = ℕ} (elim b [ true ↦ [] | false ↦ leading_base128 steps (n / 128) ++ ((128 + n % 128) ∷ []) ])
        ≤ suc steps
    go true h = omega arith
    go false h = omega (arith, length-append (leading_base128 steps (n / 128)) ((128 + n % 128) ∷ []))

identifier_within : (t : Tag) (form : Bool) → length (identifier t form) ≤ t.number + 2
unfolding identifier base128
identifier_within t form = go (nat_lt t.number 31)
  where
    go : (b : Bool)
        → length {A = ℕ}
        (cond b ((t.class * 64 + cond form 32 0 + t.number) ∷ [])
        ((t.class * 64 + cond form 32 0 + 31) ∷ (leading_base128 t.number (t.number / 128) ++ ((t.number % 128) ∷ []))))
        ≤ t.number + 2
    go true = omega arith
    go false = omega (
      arith,
      digits_within t.number (t.number / 128),
      length-append (leading_base128 t.number (t.number / 128)) ((t.number % 128) ∷ []),
    )

-- tags

open_tag : (r : RawTree) (v : Value) → FitsOpen r v → value_tag v ≡ tree_tag r
unfolding FitsOpen
open_tag (Primitive t o) v f = ⊎_elim (λ a. ap value_tag a.is) (λ a. ap value_tag a.1) f
open_tag (Constructed t rs) v f =
    ⊎_elim (λ a. ap value_tag a.is) (λ a. ⊎_elim (λ b. ap value_tag b.2) (λ b. ap value_tag b.2) a) f

pub identifier_same : (v w : Value) → Same v w → identifier_in v ≡ identifier_in w
unfolding Same
identifier_same (Leaf t o) (Leaf t' o') h = rw (h.0, h.1) refl
identifier_same (Leaf t o) (Sequence t' vs') h = absurd h
identifier_same (Leaf t o) (SetOf t' vs') h = absurd h
identifier_same (Sequence t vs) (Leaf t' o') h = absurd h
identifier_same (Sequence t vs) (Sequence t' vs') h = refl
identifier_same (Sequence t vs) (SetOf t' vs') h = absurd h
identifier_same (SetOf t vs) (Leaf t' o') h = absurd h
identifier_same (SetOf t vs) (Sequence t' vs') h = absurd h
identifier_same (SetOf t vs) (SetOf t' vs') h = refl

identifier_none : (v : Value) → same_tag (universal 6) (value_tag v) ≡ false → identifier_in v ≡ None
identifier_none (Leaf t o) e = ap (λ b. elim b [ true ↦ Some o | false ↦ None ]) e
identifier_none (Sequence t vs) e = refl
identifier_none (SetOf t vs) e = refl

-- What is known of an open value that was read after an identifier of this tag.
pub record OpenRead (t : Tag) (v : Value) : Type 0 where
  pub again : SaysAgain v
  pub tagged : value_tag v ≡ t

-- its text says its identifier, if it has one
pub identifier_again : (v : Value) → SaysAgain v → identifier_in v ≡ identifier_in (open_value (der v))
identifier_again v s = identifier_same v (open_value (der v)) s.same

pub no_identifier : (t : Tag) (v : Value) → OpenRead t v → same_tag (universal 6) t ≡ false
    → None ≡ identifier_in (open_value (der v))
no_identifier t v r e = sym (identifier_none v (rw r.tagged e)) ∙ identifier_again v r.again

laid_says : (l : Limits) (c : Enclosing) (k : ℕ) (s : List ℕ) (t : Tag) (form : Bool) (v : Value) (q : ℕ)
    (rest : List ℕ)
    → l.octets ≤ 2147483647 → IsTag t → Laid l c k s t form (λ x. FitsOpen x v) q rest → OpenRead t v
laid_says l c k s t form v q rest few g m = record {
  again =
      text_says m.tree v (identifier t form ++ m.octets) m.laid_out m.fact
      (omega (
        arith,
        length-append (identifier t form) m.octets,
        identifier_within t form,
        g.number_fits,
        m.place,
        m.within.limit,
      ));
  tagged = open_tag m.tree v m.fact ∙ m.tagged;
}

-- for readers that answer what the plain reading gives
pub open_read : (s : Standing) (g : Given) (v : Value) (k i : ℕ) (o u : Option (List ℕ)) → IsGiven g.tag s
    → Hears (read_given OpenType s g) k o (Said v) i u → OpenRead g.tag v
unfolding read_type
open_read s g v k i o u fits x =
    let given = hears_given (read_given OpenType s g) v k i o u x in
    laid_says s.limits (enclosing s) k given.0 g.tag g.constructed v i [] fits.octets_fit fits.is_tag
    (open_took s.limits.depth s.limits
    (enclosing s) v g.at g.tag g.constructed k given.0 i [] fits.is_tag fits.depth_fits given.2)

-- an OBJECT IDENTIFIER as an open value
identifier_open : (deep : ℕ) (s : Standing) (g : Given) → 0 < deep → same_tag (universal 6) g.tag ≡ true
    → read_given_leaf ObjectIdentifier g.tag s g ≡ read_open deep s.limits (enclosing s) g.at g.tag g.constructed
unfolding read_open open_form
identifier_open zero s g some e = absurd (omega arith)
identifier_open (suc deep) s g some e = rw (← same_tag_is (universal 6) g.tag e) refl

pub identifier_is : (s : Standing) (g : Given) → IsGiven g.tag s → same_tag (universal 6) g.tag ≡ true
    → read_given_leaf ObjectIdentifier g.tag s g ≡ read_given OpenType s g
unfolding read_type
identifier_is s g fits e = identifier_open s.limits.depth s g (omega (arith, fits.depth_fits)) e

-- An identifier was asked for again: it is this tag's, and the reader stands as it did.
pub record Begun {R : Type 0} {s : Ghosts R} (old mid : Pull R s) (given : Given) (tag : Tag) : Type 0 where
  pub tag_is : tag ≡ given.tag
  pub fits : IsGiven given.tag old.state
  pub still : Unmoved old mid

abbrev answered : Option (Tag × Bool) → Result (Option (Tag × Bool)) ReadError
answered next = Ok next

same_tags : (next : Option (Tag × Bool)) (t u : Tag) (f g : Bool) → answered next ≡ answered (Some (u, g))
    → next ≡ Some (t, f) → t ≡ u
same_tags next t u f g a b =
    ap (λ r. elim r [ Ok o ↦ elim o [ Some x ↦ x.0 | None ↦ t ] | Err e ↦ t ]) (sym (ap answered b) ∙ a)

pub begun : {R : Type 0} {s : Ghosts R} (old mid : Pull R s) (given : Given) (next : Option (Tag × Bool)) (tag : Tag)
    (form : Bool)
    → next ≡ Some (tag, form) → (answered next ≡ answered (Some (given.tag, given.constructed))) × Unmoved old mid
    → IfSome next (λ t. IsGiven t.0 mid.state) → Begun old mid given tag
begun old mid given next tag form is same fits =
    let e = same_tags next tag given.tag form given.constructed same.0 is in
    let f : IsGiven tag mid.state = subst (λ o. IfSome o (λ t. IsGiven t.0 mid.state)) is fits in
    record { tag_is = e; fits = subst (λ t. IsGiven t old.state) e (subst (IsGiven tag) same.1.0 f); still = same.1 }

pub open_is : (s : Standing) (g : Given)
    → read_open s.limits.depth s.limits (enclosing s) g.at g.tag g.constructed ≡ read_given OpenType s g
unfolding read_type
open_is s g = refl
