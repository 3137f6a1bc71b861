-- What was kept of a value that was read.
use Rattle.std.proofs.Common.{◌≡◌, ◌∙◌, ◌+◌, ◌++◌, ◌-◌, ◌∷◌, ◌≤◌, ⊎_elim, Bool, List, None, Option, Some, [], ℕ, ap, append-nil, append_assoc, arith, drop, false, length, refl, slice_get, subst, suc, sym, take, take-append-drop, true}
use Rattle.std.proofs.lemmas.Bool.{cases_lt}
use Rattle.std.proofs.lemmas.List.{take_all}
use Rattle.std.specs.Io.KnownBytes.{Consumes, Keeps}
use Rattle.tlv_core.specs.Limits.{IsLimits, Limits}
use Rattle.tlv_core.specs.declared.fault.ReadError.{ReadError}
use Rattle.tlv_core.specs.declared.fault.ReadError.TheVariants as errors
use Rattle.tlv_core.specs.declared.reason.Reason.TheVariants.{Truncated}
use Rattle.x690.specs.Answers.{Refused, Spelled}
use Rattle.x690.specs.DerTexts.{der}
use Rattle.x690.specs.Fitting.{Spells}
use Rattle.x690.specs.Points.{fault}
use Rattle.x690.specs.Premises.{Lawful}
use Rattle.x690.specs.TypeTerms.{TypeTerm}
use Rattle.x690.specs.Values.{Value}
use Rattle.x690_laws.proofs.LayoutsOfHeaders.{split_alone}
use Rattle.x690_laws.proofs.TextsSpell.{text_spells}
use Rattle.x690_laws.proofs.TextsAsLayouts.{same_der}
use Rattle.asn_elements.specs.Whole.{IsFailedRead, TellsInsideOf}
use Rattle.asn_documents.specs.AtHand.{StandsAtHand}
use Rattle.asn_documents.specs.ReadValues.{ReadsValue, StopsReading}
use Rattle.asn_documents.specs.Checked.{CheckedAs, InBoth, Unchecked, WhereTold}
use Rattle.asn_documents.specs.Differences.{Differs, DiffersFirst}
use Rattle.asn_documents.specs.Keepings.{framed, whole}
use Rattle.asn_documents.proofs.AtHand.{reads_at_hand}
use Rattle.asn_documents.proofs.Normalising.{one_spelling, took_as, unread_as}
use Rattle.asn_documents.proofs.ReadValues.{refused_within}

-- the octets that are taken are kept, and the whole stays as it was
kept_on : (kept piece : List ℕ) (before after : Option (List ℕ)) → (before ≡ None → after ≡ None)
    → Consumes before after piece → whole (kept ++ piece) after ≡ whole kept before
kept_on kept piece None None silent c = refl
kept_on kept piece None (Some after) silent c = let e = silent refl in cc
kept_on kept piece (Some before) None silent c = absurd c
kept_on kept piece (Some before) (Some after) silent c = append_assoc kept piece after ∙ ap (λ z. kept ++ z) (sym c)

same_framed : (name name' : ℕ) (w w' below below' : List ℕ) → name' ≡ name → w' ≡ w → below' ≡ below
    → framed name' w' below' ≡ framed name w below
same_framed name name' w w' below below' n e b =
    ap (λ z. framed z w' below') n ∙ ap (λ z. framed name z below') e ∙ ap (λ z. framed name w z) b

pub frame_on : (name name' : ℕ) (kept kept' piece below below' : List ℕ) (before after : Option (List ℕ)) → name' ≡ name
    → kept' ≡ kept ++ piece → (before ≡ None → after ≡ None) → Consumes before after piece → below' ≡ below
    → framed name' (whole kept' after) below' ≡ framed name (whole kept before) below
frame_on name name' kept kept' piece below below' before after same grown silent c b =
    same_framed name name' _ _ below below' same
    (ap (λ z. whole z after) grown ∙ kept_on kept piece before after silent c) b

still_kept : (kept : List ℕ) (before after : Option (List ℕ)) → (before ≡ None → after ≡ None) → Keeps before after
    → whole kept after ≡ whole kept before
still_kept kept None None silent c = refl
still_kept kept None (Some after) silent c = let e = silent refl in cc
still_kept kept (Some before) None silent c = absurd c
still_kept kept (Some before) (Some after) silent c = ap (λ z. kept ++ z) c

pub frame_still : (name name' : ℕ) (kept kept' below below' : List ℕ) (before after : Option (List ℕ)) → name' ≡ name
    → kept' ≡ kept → (before ≡ None → after ≡ None) → Keeps before after → below' ≡ below
    → framed name' (whole kept' after) below' ≡ framed name (whole kept before) below
frame_still name name' kept kept' below below' before after same grown silent c b =
    same_framed name name' _ _ below below' same
    (ap (λ z. whole z after) grown ∙ still_kept kept before after silent c) b

both_lengths : (xs ys : List ℕ) → length (xs ++ ys) ≡ length xs + length ys
both_lengths [] ys = (let e : length ys ≡ 0 + length ys = omega arith in e)
both_lengths (x ∷ xs) ys =
    let h = both_lengths xs ys in
    (let e : suc (length (xs ++ ys)) ≡ suc (length xs) + length ys = omega (arith, h) in e)

kept_is : (before after octets kept : List ℕ) → before ≡ octets ++ after → kept ++ after ≡ before → kept ≡ octets
kept_is before after octets kept is same =
    let e : kept ++ after ≡ octets ++ after = same ∙ is in
    let n : length kept + length after ≡ length octets + length after =
    sym (both_lengths kept after) ∙ ap length e ∙ both_lengths octets after in
    (split_alone kept octets after after (omega (arith, n)) e).0

kept_told : (l : Limits) (T : TypeTerm) (w : Value) (before after : Option (List ℕ)) (taken : ℕ) (kept : List ℕ)
    (place : Option ℕ)
    → (r : ReadsValue l T w before after taken) → whole kept after ≡ whole [] before → Differs kept (der w) place
    → WhereTold before (Differs r.octets (der r.spelled) place)
kept_told l T w None after taken kept place r same h = tt
kept_told l T w (Some before) None taken kept place r same h = absurd r.takes
kept_told l T w (Some before) (Some after) taken kept place r same h =
    subst (λ z. Differs z (der r.spelled) place) (kept_is before after r.octets kept r.takes same)
    (subst (λ z. Differs kept z place) (sym (same_der r.spelled w r.same)) h)

-- a text and its value's octets differ where both have an octet, since neither begins the other
module _ (l : Limits) (T : TypeTerm) (v : Value) (octets : List ℕ) (lawful : Lawful T) (fine : IsLimits l)
    (s : Spells l T v octets) where
  text_too : Spells l T v (der v)
  text_too = let most = fine.most_octets in text_spells l T v octets lawful.distinct (omega arith) s

  not_past : (p : ℕ) → length octets ≤ p → DiffersFirst octets (der v) p → ⊥
  not_past p past d =
      let e : octets ≡ take p (der v) = sym (take_all p octets past) ∙ d.before in
      let whole : octets ++ drop p (der v) ≡ der v ++ [] =
      ap (λ z. z ++ drop p (der v)) e ∙ take-append-drop p (der v) ∙ sym (append-nil (der v)) in
      d.there
      (ap (λ z. slice_get z p) (one_spelling l T v v octets (der v) (drop p (der v)) [] lawful fine s text_too whole).0)

  not_past_text : (p : ℕ) → length (der v) ≤ p → DiffersFirst octets (der v) p → ⊥
  not_past_text p past d =
      let e : take p octets ≡ der v = d.before ∙ take_all p (der v) past in
      let whole : octets ++ [] ≡ der v ++ drop p octets =
      append-nil octets ∙ sym (take-append-drop p octets) ∙ ap (λ z. z ++ drop p octets) e in
      d.there
      (ap (λ z. slice_get z p) (one_spelling l T v v octets (der v) [] (drop p octets) lawful fine s text_too whole).0)

  in_both : (place : Option ℕ) → Differs octets (der v) place → InBoth octets (der v) place
  in_both None d = tt
  in_both (Some p) d = (
    ⊎_elim (λ lt. lt) (λ past. absurd (not_past p past d)) (cases_lt p (length octets)),
    ⊎_elim (λ lt. lt) (λ past. absurd (not_past_text p past d)) (cases_lt p (length (der v))),
  )

told_in_both : (l : Limits) (T : TypeTerm) (v : Value) (octets : List ℕ) (before : Option (List ℕ)) (place : Option ℕ)
    → Lawful T → IsLimits l → Spells l T v octets → WhereTold before (Differs octets (der v) place)
    → WhereTold before (InBoth octets (der v) place)
told_in_both l T v octets None place lawful fine s h = tt
told_in_both l T v octets (Some before) place lawful fine s h = in_both l T v octets lawful fine s place h

pub checked_as : (l : Limits) (T : TypeTerm) (w : Value) (before after : Option (List ℕ)) (taken : ℕ) (kept : List ℕ)
    (place : Option ℕ)
    → Lawful T → IsLimits l → ReadsValue l T w before after taken → whole kept after ≡ whole [] before
    → Differs kept (der w) place
    → (value : Value) × CheckedAs l T value before after taken place
unfolding took_as
checked_as l T w before after taken kept place lawful fine r same h = (
  r.spelled,
  record {
    took = took_as l T w before after taken lawful fine r;
    differs = kept_told l T w before after taken kept place r same h;
    in_both =
        told_in_both l T r.spelled r.octets before place lawful fine r.spells
        (kept_told l T w before after taken kept place r same h);
  },
)

-- memory ran out for what would be kept, and no octet more was taken
pub no_memory : (l : Limits) (T : TypeTerm) (e : ReadError) (before after : Option (List ℕ))
    → StopsReading l T e before after → StopsReading l T errors.Memory before after
no_memory l T e None after s = tt
no_memory l T e (Some before) None s = absurd s
no_memory l T (errors.Fault f) (Some before) (Some after) s =
    (s.0, s.1, λ text n a. let turned : Refused f ≡ Spelled text n = sym s.2.answers ∙ a in absurd cc, s.3)
no_memory l T (errors.Read at) (Some before) (Some after) s =
    (s.0, s.1, λ text n a. refused_within l T before s.0 after text n (fault at Truncated) s.1 s.2.1.answers a, s.3)
no_memory l T errors.Memory (Some before) (Some after) s = s

cons_tail : (x y : ℕ) (xs ys : List ℕ) → x ∷ xs ≡ y ∷ ys → (x ≡ y) × (xs ≡ ys)
cons_tail x y xs ys e = (cc, cc)

-- what is known of a source that keeps, whose frame is as it was
pub frame_whole : (name name' : ℕ) (w w' below below' : List ℕ) → framed name w below ≡ framed name' w' below'
    → (name ≡ name') × ((w ≡ w') × (below ≡ below'))
frame_whole name name' w w' below below' e =
    let a = cons_tail _ _ _ _ e in
    let b = cons_tail _ _ _ _ a.1 in
    (a.0, split_alone w w' below below' b.0 b.1)

-- The source as the call left it.

pub checked_still : {R : Type 0} (remaining : R → Option (List ℕ)) (l : Limits) (T : TypeTerm) (w : Value)
    (first start mid new : R) (taken : ℕ) (kept kept' : List ℕ) (place : Option ℕ)
    → start ≡ first → new ≡ mid → kept' ≡ [] → Lawful T → IsLimits l
    → ReadsValue l T w (remaining start) (remaining mid) taken
    → whole kept (remaining mid) ≡ whole kept' (remaining start) → Differs kept (der w) place
    → (value : Value) × CheckedAs l T value (remaining first) (remaining new) taken place
checked_still remaining l T w first start mid new taken kept kept' place begins ends none lawful fine r frame h =
    let e = frame ∙ ap (λ z. whole z (remaining start)) none in
    subst (λ z. (value : Value) × CheckedAs l T value (remaining z) (remaining new) taken place) begins
    (subst (λ z. (value : Value) × CheckedAs l T value (remaining start) (remaining z) taken place) (sym ends)
    (checked_as l T w (remaining start) (remaining mid) taken kept place lawful fine r e h))

stopped_still : {R : Type 0} (remaining : R → Option (List ℕ)) (l : Limits) (T : TypeTerm) (e : ReadError)
    (first start mid new : R)
    → start ≡ first → new ≡ mid → StopsReading l T e (remaining start) (remaining mid)
    → StopsReading l T e (remaining first) (remaining new)
stopped_still remaining l T e first start mid new begins ends h =
    subst (λ z. StopsReading l T e (remaining z) (remaining new)) begins
    (subst (λ z. StopsReading l T e (remaining start) (remaining z)) (sym ends) h)

pub unchecked_still : {R : Type 0} (remaining : R → Option (List ℕ)) (l : Limits) (T : TypeTerm) (e : ReadError)
    (first start mid new : R)
    → start ≡ first → new ≡ mid → Lawful T → TellsInsideOf e → StopsReading l T e (remaining start) (remaining mid)
    → Unchecked l T e (remaining first) (remaining new)
unchecked_still remaining l T e first start mid new begins ends lawful inside h =
    let s = stopped_still remaining l T e first start mid new begins ends h in
    (s, unread_as l T e (remaining first) (remaining new) lawful inside s)

pub fine_still : {R : Type 0} (has_failed : R → Bool) (mid new : R) → new ≡ mid → has_failed mid ≡ false
    → has_failed new ≡ false
fine_still has_failed mid new ends h = ap has_failed ends ∙ h

same_failed : (failed refused it : Bool) → (failed ≡ false → it ≡ false) → (failed ≡ true → refused ≡ false → it ≡ true)
    → refused ≡ false → failed ≡ it
same_failed true refused it live broken kept = sym (broken refl kept)
same_failed false refused it live broken kept = sym (live refl)

pub failed_still : {R : Type 0} (has_failed : R → Bool) (mid new : R) (failed refused : Bool) (e : ReadError)
    → new ≡ mid → (failed ≡ false → has_failed mid ≡ false) → (failed ≡ true → refused ≡ false → has_failed mid ≡ true)
    → refused ≡ false → IsFailedRead failed e → IsFailedRead (has_failed new) e
failed_still has_failed mid new failed refused e ends live broken kept h =
    subst (λ z. IsFailedRead z e)
    (same_failed failed refused (has_failed mid) live broken kept ∙ ap has_failed (sym ends)) h

-- a value that was judged to be in DER where it stands

told : (before : Option (List ℕ)) (claim : Type 0) → claim → WhereTold before claim
told None claim h = tt
told (Some octets) claim h = h

pub passed_in_der : (l : Limits) (T : TypeTerm) (octets : List ℕ) (before after : Option (List ℕ)) (taken : ℕ)
    → Lawful T → IsLimits l → StandsAtHand l T octets taken → Consumes before after (take taken octets)
    → (value : Value) × CheckedAs l T value before after taken None
unfolding took_as reads_at_hand
passed_in_der l T octets before after taken lawful fine s takes = (
  s.value,
  record {
    took = took_as l T s.value before after taken lawful fine
        (reads_at_hand l T octets before after taken lawful s takes);
    differs = told before (Differs (der s.value) (der s.value) None) refl;
    in_both = told before (InBoth (der s.value) (der s.value) None) tt;
  },
)
