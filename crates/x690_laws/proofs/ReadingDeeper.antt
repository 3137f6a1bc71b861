-- What fits within a limit of nesting fits within a greater one.
use Rattle.std.proofs.Common.{ℕ, ◌≤◌, inl, inr, List, [], ◌∷◌, arith}
use Rattle.x690.specs.Fitting.{Fits, FitsFields}
use Rattle.x690.specs.Layouts.{RawTree}
use Rattle.x690.specs.Lists.{Each, Paired}
use Rattle.x690.specs.TypeTerms.{ChoiceType, ContainingType, Default, DefinedByType, EndOfFields, Fields, LeafType, OpenType, Optional, RefusedType, Required, RuledType, SequenceOfType, SequenceType, SetOfType, TypeTerm}
use Rattle.x690.specs.Values.{Value}

each_map : {A B : Type 0} (R Q : A → B → Type 0) → ((a : A) (b : B) → R a b → Q a b) → (as' : List A) (bs : List B)
    → Each R as' bs → Each Q as' bs
each_map R Q f [] [] h = tt
each_map R Q f [] (b ∷ bs) h = absurd h
each_map R Q f (a ∷ as') [] h = absurd h
each_map R Q f (a ∷ as') (b ∷ bs) h = (f a b h.0, each_map R Q f as' bs h.1)

paired_map : {A B : Type 0} (R Q : A → B → Type 0) → ((a : A) (b : B) → R a b → Q a b) → (as' : List A) (bs : List B)
    → Paired R as' bs → Paired Q as' bs
paired_map R Q f [] bs h = h
paired_map R Q f (a ∷ as') bs h = (h.0, h.1, h.2, f a h.0 h.3, paired_map R Q f as' h.1 h.4)

mutual
  unfolding Fits

  pub fits_deeper : (d d' : ℕ) (T : TypeTerm) (earlier : List Value) (r : RawTree) (v : Value) → d ≤ d'
      → Fits d T earlier r v → Fits d' T earlier r v
  fits_deeper d d' (LeafType t k) earlier r v le h = h
  fits_deeper d d' OpenType earlier r v le h = h
  fits_deeper d d' (SequenceOfType t n T) earlier r v le h =
      (h.0, h.1, h.2, h.3, h.4, each_map (Fits d T []) (Fits d' T []) (λ a b x. fits_deeper d d' T [] a b le x) _ _ h.5)
  fits_deeper d d' (SetOfType t n T) earlier r v le h = (
    h.0,
    h.1,
    h.2,
    h.3,
    h.4,
    paired_map (Fits d T []) (Fits d' T []) (λ a b x. fits_deeper d d' T [] a b le x) _ _ h.5,
  )
  fits_deeper d d' (SequenceType t fs) earlier r v le h = (h.0, h.1, h.2, h.3, fields_deeper d d' fs [] _ _ le h.4)
  fits_deeper d d' (ContainingType t q T) earlier r v le h = (
    h.0,
    h.1,
    h.2,
    h.3,
    h.4,
    (let z = h.5 in omega (arith, z, le)),
    h.6,
    fits_deeper d d' T earlier h.3 h.4 le h.7,
    h.8,
    h.9,
  )
  fits_deeper d d' (RuledType q T) earlier r v le h = (h.0, fits_deeper d d' T earlier r v le h.1)
  fits_deeper d d' (RefusedType t w) earlier r v le h = h
  fits_deeper d d' (DefinedByType p os A B) earlier r v le (inl h) = inl (h.0, fits_deeper d d' A earlier r v le h.1)
  fits_deeper d d' (DefinedByType p os A B) earlier r v le (inr h) = inr (h.0, fits_deeper d d' B earlier r v le h.1)
  fits_deeper d d' (ChoiceType A B) earlier r v le (inl h) = inl (h.0, fits_deeper d d' A earlier r v le h.1)
  fits_deeper d d' (ChoiceType A B) earlier r v le (inr h) = inr (h.0, fits_deeper d d' B earlier r v le h.1)

  fields_deeper : (d d' : ℕ) (fs : Fields) (earlier : List Value) (rs : List RawTree) (vs : List Value) → d ≤ d'
      → FitsFields d fs earlier rs vs → FitsFields d' fs earlier rs vs
  fields_deeper d d' EndOfFields earlier rs vs le h = h
  fields_deeper d d' (Required T fs) earlier rs vs le h =
      (h.0, h.1, h.2, h.3, h.4, h.5, fits_deeper d d' T earlier h.0 h.2 le h.6, fields_deeper d d' fs _ h.1 h.3 le h.7)
  fields_deeper d d' (Optional T fs) earlier rs vs le (inl h) = inl (h.0, fields_deeper d d' fs earlier rs vs le h.1)
  fields_deeper d d' (Optional T fs) earlier rs vs le (inr h) = inr (
    h.0,
    h.1,
    h.2,
    h.3,
    h.4,
    h.5,
    h.6,
    fits_deeper d d' T earlier h.0 h.2 le h.7,
    fields_deeper d d' fs _ h.1 h.3 le h.8,
  )
  fields_deeper d d' (Default u o T fs) earlier rs vs le (inl h) = inl (h.0, fields_deeper d d' fs earlier rs vs le h.1)
  fields_deeper d d' (Default u o T fs) earlier rs vs le (inr (r, rs', v, e, n, f, inl g)) =
      inr (r, rs', v, e, n, fits_deeper d d' T earlier r v le f, inl (g.0, fields_deeper d d' fs earlier rs' vs le g.1))
  fields_deeper d d' (Default u o T fs) earlier rs vs le (inr (r, rs', v, e, n, f, inr g)) = inr (
    r,
    rs',
    v,
    e,
    n,
    fits_deeper d d' T earlier r v le f,
    inr (g.0, g.1, g.2, fields_deeper d d' fs _ rs' g.0 le g.3),
  )
