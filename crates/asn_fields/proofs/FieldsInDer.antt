-- Fields in DER, one after another.
use Rattle.std.proofs.Common.{◌≡◌, ◌∙◌, ◌+◌, ◌++◌, ◌<◌, ◌∷◌, ⊎_elim, Bool, List, None, [], ap, append-nil, append_assoc, arith, false, inl, inr, length, map, refl, subst, sym, true, ℕ}
use Rattle.std.proofs.lemmas.List.{length-append, map-append}
use Rattle.tlv_core.specs.Identifier.{IsTag, Tag, identifier}
use Rattle.tlv_core.specs.Length.{shortest_length}
use Rattle.x690.specs.Contents.{Boolean}
use Rattle.x690.specs.DerTexts.{der, der_element, der_texts, texts_of}
use Rattle.x690.specs.Fitting.{Fits, FitsFields, next_fits}
use Rattle.x690.specs.Layouts.{Constructed, LaidOut, Primitive, RawTree, member_trees, tree_tag, universal}
use Rattle.x690.specs.Lists.{Each, join, one_of}
use Rattle.x690.specs.TypeTerms.{Chosen, Default, DefinedByType, EndOfFields, Fields, LeafType, Optional, Required, Rule, RuledType, SequenceType, TypeTerm, fits_tag}
use Rattle.x690.specs.Values.{FirstMember, Leaf, NoMembers, Same, Sequence, Value, Values, leaf_at, members, values_of}
use Rattle.x690_laws.proofs.LayoutsOfHeaders.{identifier_alone}
use Rattle.x690_laws.proofs.LengthsOfHeaders.{identifier_some}
use Rattle.x690_laws.proofs.LengthsOfTexts.{ders_values}
use Rattle.x690_laws.proofs.ReadingLeavesSound.{contents_fit}
use Rattle.x690_laws.proofs.ReadingSound.{items_values}
use Rattle.x690_laws.proofs.TextsAsLayouts.{ders_map, element_alone}
use Rattle.x690_laws.proofs.TextsAsTrees.{element_definite, members_raws, raws_of}
use Rattle.x690_laws.proofs.TextsSpell.{begins_fits}
use Rattle.asn_elements.specs.InDer.{BeginsInDer, BeginsWithText, LaidOutWithin, StandsInDer}
use Rattle.asn_elements.proofs.InDerTexts.{container_laid_out}
use Rattle.asn_fields.specs.FieldsInDer.{AreFields, FieldsBegin, FieldsStand, FirstFieldsBegin, MayStand}

-- what stands next

no_identifier : (t : Tag) (f : Bool) (behind : List ℕ) → [] ≡ identifier t f ++ behind → ⊥
no_identifier t f behind e =
    absurd (omega (arith, ap length e, length-append (identifier t f) behind, identifier_some t f))

pub none_next : (T : TypeTerm) (trees : List RawTree) → MayStand trees [] → next_fits T trees ≡ false
none_next T [] stand = refl
none_next T (tree ∷ trees) stand = absurd (no_identifier (tree_tag tree) stand.0 stand.1 stand.2)

pub other_next : (T : TypeTerm) (t : Tag) (constructed : Bool) (behind octets : List ℕ)
    → octets ≡ identifier t constructed ++ behind → fits_tag T t ≡ false
    → (trees : List RawTree) → MayStand trees octets → next_fits T trees ≡ false
other_next T t constructed behind octets is not [] stand = refl
other_next T t constructed behind octets is not (tree ∷ trees) stand =
    let same = identifier_alone (tree_tag tree) t stand.0 constructed stand.1 behind (sym stand.2 ∙ is) in
    ap (fits_tag T) same.0 ∙ not

-- a field that is due

pub required_stands : (limit left : ℕ) (T : TypeTerm) (earlier : List Value) (v : Value) (octets rest : List ℕ)
    → StandsInDer limit left T earlier v octets rest
    → FieldsStand limit left (λ more. Required T more) earlier (v ∷ []) octets rest
unfolding Fits
required_stands limit left T earlier v octets rest s = record {
  is = s.is ∙ ap (λ z. z ++ rest) (sym (append-nil (der v)));
  trees = s.tree ∷ [];
  laid_out = ((s.laid_out, s.depth_fits), tt);
  fit = λ more trees' values' stand f. (s.tree, trees', v, values', refl, refl, s.fits, f);
}

pub required_begins : (limit left : ℕ) (T : TypeTerm) (octets rest : List ℕ) → BeginsInDer limit left T octets rest
    → FieldsBegin limit left (λ more. Required T more) octets rest
required_begins limit left T octets rest b =
    (b.0 ∷ [], λ earlier. required_stands limit left T earlier b.0 octets rest (b.1 earlier))

-- one that may be absent

pub optional_stands : (limit left : ℕ) (T : TypeTerm) (earlier : List Value) (v : Value) (octets rest : List ℕ)
    → StandsInDer limit left T earlier v octets rest
    → FieldsStand limit left (λ more. Optional T more) earlier (v ∷ []) octets rest
unfolding Fits
optional_stands limit left T earlier v octets rest s =
    let begins = begins_fits limit T earlier s.tree v s.fits in
    record {
      is = s.is ∙ ap (λ z. z ++ rest) (sym (append-nil (der v)));
      trees = s.tree ∷ [];
      laid_out = ((s.laid_out, s.depth_fits), tt);
      fit = λ more trees' values' stand f. inr (s.tree, trees', v, values', refl, refl, begins, s.fits, f);
    }

pub optional_there : (limit left : ℕ) (T : TypeTerm) (octets rest : List ℕ) → BeginsInDer limit left T octets rest
    → FieldsBegin limit left (λ more. Optional T more) octets rest
optional_there limit left T octets rest b =
    (b.0 ∷ [], λ earlier. optional_stands limit left T earlier b.0 octets rest (b.1 earlier))

pub none_stands : (limit left : ℕ) (T : TypeTerm) (earlier : List Value) (octets : List ℕ)
    → ((trees : List RawTree) → MayStand trees octets → next_fits T trees ≡ false)
    → FieldsStand limit left (λ more. Optional T more) earlier [] octets octets
unfolding Fits
none_stands limit left T earlier octets absent = record {
  is = refl;
  trees = [];
  laid_out = tt;
  fit = λ more trees' values' stand f.
      inl (absent trees' stand, subst (λ e. FitsFields limit more e trees' values') (append-nil earlier) f);
}

pub optional_absent : (limit left : ℕ) (T : TypeTerm) (octets : List ℕ)
    → ((trees : List RawTree) → MayStand trees octets → next_fits T trees ≡ false)
    → FieldsBegin limit left (λ more. Optional T more) octets octets
optional_absent limit left T octets absent =
    ([], λ earlier. none_stands limit left T earlier octets absent)

-- a BOOLEAN DEFAULT FALSE, which is there where it is TRUE

abbrev truth : Value
truth = Leaf (universal 1) (255 ∷ [])

is_boolean : IsTag (universal 1)
is_boolean = record { class_fits = omega arith; number_fits = omega arith; not_end = omega arith }

not_default : Same truth (Leaf (universal 1) (0 ∷ [])) → ⊥
unfolding Same
not_default e = let octets : 255 ∷ [] ≡ 0 ∷ [] = e.1 in cc

truth_text : der truth ≡ 1 ∷ 1 ∷ 255 ∷ []
unfolding der der_element identifier shortest_length
truth_text = refl

pub default_there : (limit left : ℕ) (octets rest : List ℕ) → octets ≡ 1 ∷ 1 ∷ 255 ∷ rest
    → FieldsBegin limit left (λ more. Default (universal 1) (0 ∷ []) (LeafType (universal 1) Boolean) more) octets rest
unfolding Fits LaidOut der fits_tag
default_there limit left octets rest is = (
  truth ∷ [],
  λ earlier. record {
    is = is ∙ sym (ap (λ z. (z ++ []) ++ rest) truth_text);
    trees = Primitive (universal 1) (255 ∷ []) ∷ [];
    laid_out = (((is_boolean, element_definite (universal 1) false (255 ∷ []) (omega arith)), omega arith), tt);
    fit = λ more trees' values' stand f. inr (
      Primitive (universal 1) (255 ∷ []),
      trees',
      truth,
      refl,
      refl,
      (refl, 255 ∷ [], contents_fit Boolean (universal 1) (255 ∷ []) refl, refl),
      inr (values', refl, not_default, f),
    );
  },
)

pub default_absent : (limit left : ℕ) (own : Tag) (contents : List ℕ) (T : TypeTerm) (octets : List ℕ)
    → ((trees : List RawTree) → MayStand trees octets → next_fits T trees ≡ false)
    → FieldsBegin limit left (λ more. Default own contents T more) octets octets
unfolding Fits
default_absent limit left own contents T octets absent = (
  [],
  λ earlier. record {
    is = refl;
    trees = [];
    laid_out = tt;
    fit = λ more trees' values' stand f.
        inl (absent trees' stand, subst (λ e. FitsFields limit more e trees' values') (append-nil earlier) f);
  },
)

-- fields after fields

texts_both : (vs ws : List Value) → texts_of (vs ++ ws) ≡ texts_of vs ++ texts_of ws
texts_both [] ws = refl
texts_both (v ∷ vs) ws =
    ap (λ z. der v ++ z) (texts_both vs ws) ∙ sym (append_assoc (der v) (texts_of vs) (texts_of ws))

each_both : (left : ℕ) (trees others : List RawTree) (texts more : List (List ℕ))
    → Each (LaidOutWithin left) trees texts → Each (LaidOutWithin left) others more
    → Each (LaidOutWithin left) (trees ++ others) (texts ++ more)
each_both left [] others [] more h k = k
each_both left [] others (x ∷ texts) more h k = absurd h
each_both left (t ∷ trees) others [] more h k = absurd h
each_both left (t ∷ trees) others (x ∷ texts) more h k = (h.0, each_both left trees others texts more h.1 k)

lays_begin : (tree : RawTree) (text : List ℕ) → LaidOut tree text
    → (constructed : Bool) × (behind : List ℕ) × (text ≡ identifier (tree_tag tree) constructed ++ behind)
unfolding LaidOut
lays_begin (Primitive t contents) text h = (false, h.1.length_octets ++ contents, h.1.is)
lays_begin (Constructed t trees) text h =
    ⊎_elim (λ d. (true, d.length_octets ++ h.1.0, d.is)) (λ i. (true, 128 ∷ (h.1.0 ++ (0 ∷ 0 ∷ [])), i.is)) h.1.2

stand_before : (left : ℕ) (trees trees' : List RawTree) (ws : List Value) (octets rest : List ℕ)
    → Each (LaidOutWithin left) trees (map der ws) → octets ≡ texts_of ws ++ rest → MayStand trees' rest
    → MayStand (trees ++ trees') octets
stand_before left [] trees' [] octets rest h is stand = subst (MayStand trees') (sym is) stand
stand_before left [] trees' (w ∷ ws) octets rest h is stand = absurd h
stand_before left (t ∷ trees) trees' [] octets rest h is stand = absurd h
stand_before left (t ∷ trees) trees' (w ∷ ws) octets rest h is stand =
    let b = lays_begin t (der w) h.0.0 in (
      b.0,
      b.1 ++ (texts_of ws ++ rest),
      is ∙ ap (λ z. (z ++ texts_of ws) ++ rest) b.2
          ∙ append_assoc (identifier (tree_tag t) b.0 ++ b.1) (texts_of ws) rest
          ∙ append_assoc (identifier (tree_tag t) b.0) b.1 (texts_of ws ++ rest),
    )

pub both_stand : (limit left : ℕ) (A B : Fields → Fields) (earlier vs ws : List Value) (octets mid rest : List ℕ)
    → FieldsStand limit left A earlier vs octets mid → FieldsStand limit left B (earlier ++ vs) ws mid rest
    → FieldsStand limit left (λ more. A (B more)) earlier (vs ++ ws) octets rest
both_stand limit left A B earlier vs ws octets mid rest a b = record {
  is = a.is ∙ ap (λ z. texts_of vs ++ z) b.is ∙ sym (append_assoc (texts_of vs) (texts_of ws) rest)
      ∙ ap (λ z. z ++ rest) (sym (texts_both vs ws));
  trees = a.trees ++ b.trees;
  laid_out =
      subst (Each (LaidOutWithin left) (a.trees ++ b.trees)) (sym (map-append der vs ws))
      (each_both left a.trees b.trees (map der vs) (map der ws) a.laid_out b.laid_out);
  fit = λ more trees' values' stand f.
      let behind = subst (λ e. FitsFields limit more e trees' values') (sym (append_assoc earlier vs ws)) f in
      let g = a.fit (B more) (b.trees ++ trees') (ws ++ values')
      (stand_before left b.trees trees' ws mid rest b.laid_out b.is stand)
      (b.fit more trees' values' stand behind) in
      subst (λ z. FitsFields limit (A (B more)) earlier z ((vs ++ ws) ++ values'))
      (sym (append_assoc a.trees b.trees trees'))
      (subst (λ z. FitsFields limit (A (B more)) earlier (a.trees ++ (b.trees ++ trees')) z)
      (sym (append_assoc vs ws values')) g);
}

pub both_begin : (limit left : ℕ) (A B : Fields → Fields) (octets mid rest : List ℕ)
    → FieldsBegin limit left A octets mid → FieldsBegin limit left B mid rest
    → FieldsBegin limit left (λ more. A (B more)) octets rest
both_begin limit left A B octets mid rest a b = (
  a.0 ++ b.0,
  λ earlier. both_stand limit left A B earlier a.0 b.0 octets mid rest (a.1 earlier) (b.1 (earlier ++ a.0)),
)

-- all fields of a SEQUENCE

pub sequence_begins : (limit left outer : ℕ) (own : Tag) (types : Fields → Fields) (values : List Value)
    (octets contents rest behind : List ℕ)
    → IsTag own → octets ≡ der_element own true contents ++ rest → length contents < 16777216 → left + 1 ≡ outer
    → FieldsStand limit left types [] values contents behind → behind ≡ []
    → BeginsInDer limit outer (SequenceType own (types EndOfFields)) octets rest
unfolding Fits der
sequence_begins limit left outer own types values octets contents rest behind tag is small deep s none =
    let whole : contents ≡ join (map der values) =
    s.is ∙ ap (λ z. texts_of values ++ z) none ∙ append-nil (texts_of values) in
    let text : der_element own true (join (map der values)) ≡ der (Sequence own (values_of values)) =
    ap (λ z. der_element own true (join z)) (sym (ders_values values)) in
    let laid = container_laid_out left own s.trees (map der values) tag (subst (λ z. length z < 16777216) whole small)
    s.laid_out in
    let tree = Constructed own (raws_of s.trees) in
    let alone = s.fit EndOfFields [] [] tt (refl, refl) in
    let fields = subst (λ z. FitsFields limit (types EndOfFields) [] z (values ++ []))
    (append-nil s.trees ∙ sym (members_raws s.trees)) alone in
    let all = subst (FitsFields limit (types EndOfFields) [] (member_trees (raws_of s.trees)))
    (append-nil values ∙ sym (items_values values)) fields in (
      Sequence own (values_of values),
      λ earlier. record {
        is = is ∙ ap (λ z. z ++ rest) (ap (der_element own true) whole ∙ text);
        tree = tree;
        laid_out = subst (LaidOut tree) text laid.0;
        depth_fits = omega (arith, laid.1);
        fits = (raws_of s.trees, values_of values, refl, refl, all);
      },
    )

-- what is told of fields that were judged, and of a SEQUENCE in DER

pub are_fields : (limit left : ℕ) (types : Fields → Fields) (values : List Value) (octets behind : List ℕ)
    → FieldsStand limit left types [] values octets behind → AreFields limit types values octets behind
unfolding Fits
are_fields limit left types values octets behind s = (
  s.trees ++ [],
  s.is,
  subst (FitsFields limit (types EndOfFields) [] (s.trees ++ [])) (append-nil values)
      (s.fit EndOfFields [] [] tt (refl, refl)),
)

values_members : (vs : Values) → values_of (members vs) ≡ vs
values_members NoMembers = refl
values_members (FirstMember v vs) = ap (FirstMember v) (values_members vs)

pub sequence_fields : (limit : ℕ) (own tag : Tag) (types : Fields → Fields) (value : Value)
    (octets contents rest behind : List ℕ)
    → BeginsWithText limit (SequenceType own (types EndOfFields)) [] value octets rest
    → octets ≡ der_element tag true contents ++ behind
    → (values : List Value) × (value ≡ Sequence own (values_of values)) × AreFields limit types values contents []
unfolding Fits der
sequence_fields limit own tag types value octets contents rest behind s is =
    let fits = s.2 in
    let vs = fits.1 in
    let text : der_element own true (join (der_texts vs)) ++ rest ≡ der_element tag true contents ++ behind =
    ap (λ v. der v ++ rest) (sym fits.3) ∙ sym s.1 ∙ is in
    let same = element_alone own tag true true (join (der_texts vs)) contents rest behind text in (
      members vs,
      fits.3 ∙ ap (Sequence own) (sym (values_members vs)),
      (
        member_trees fits.0,
        sym same.contents ∙ ap join (ders_map vs) ∙ sym (append-nil (texts_of (members vs))),
        fits.4,
      ),
    )

pub dependent_stands : (limit left : ℕ) (A B : Fields → Fields) (vs ws : List Value) (octets mid rest : List ℕ)
    → FieldsStand limit left A [] vs octets mid → FieldsStand limit left B vs ws mid rest
    → FirstFieldsBegin limit left (λ more. A (B more)) octets rest
dependent_stands limit left A B vs ws octets mid rest a b =
    (vs ++ ws, both_stand limit left A B [] vs ws octets mid rest a b)

pub ruled_stands : (limit left : ℕ) (rule : Rule) (T : TypeTerm) (earlier : List Value) (v : Value)
    (octets rest : List ℕ)
    → StandsInDer limit left T earlier v octets rest → rule earlier v ≡ None
    → StandsInDer limit left (RuledType rule T) earlier v octets rest
unfolding Fits
ruled_stands limit left rule T earlier v octets rest s passes = record {
  is = s.is;
  tree = s.tree;
  laid_out = s.laid_out;
  depth_fits = s.depth_fits;
  fits = (passes, s.fits);
}

pub defined_stands : (limit left : ℕ) (path : List ℕ) (codes : List (List ℕ)) (T U : TypeTerm)
    (earlier : List Value) (v : Value) (octets rest : List ℕ) (first : Bool)
    → first ≡ one_of (leaf_at path earlier) codes
    → Chosen first (StandsInDer limit left T earlier v octets rest) (StandsInDer limit left U earlier v octets rest)
    → StandsInDer limit left (DefinedByType path codes T U) earlier v octets rest
unfolding Fits
defined_stands limit left path codes T U earlier v octets rest first is chosen = ⊎_elim
    (λ a. record {
      is = a.1.is;
      tree = a.1.tree;
      laid_out = a.1.laid_out;
      depth_fits = a.1.depth_fits;
      fits = inl (sym is ∙ a.0, a.1.fits);
    })
    (λ b. record {
      is = b.1.is;
      tree = b.1.tree;
      laid_out = b.1.laid_out;
      depth_fits = b.1.depth_fits;
      fits = inr (sym is ∙ b.0, b.1.fits);
    })
    chosen
