-- What was read from a source, by the answer to its octets.
use Rattle.std.proofs.Common.{◌≡◌, ◌∙◌, ◌+◌, ◌*◌, ◌++◌, ◌∷◌, ◌<◌, ◌≤◌, ⊎_elim, List, None, Option, Some, [], ℕ, ap, append-nil, arith, length, refl, subst, sym}
use Rattle.std.proofs.lemmas.Bool.{cases_lt}
use Rattle.std.proofs.lemmas.List.{length-append}
use Rattle.std.specs.Io.KnownBytes.{Consumes}
use Rattle.tlv_core.specs.Limits.{Limits}
use Rattle.tlv_core.specs.declared.fault.Fault.{Fault}
use Rattle.tlv_core.specs.declared.fault.ReadError.{ReadError}
use Rattle.tlv_core.specs.declared.fault.ReadError.TheVariants as errors
use Rattle.tlv_core.specs.declared.reason.Reason.TheVariants.{TextTooLong, Truncated}
use Rattle.x690.specs.Answers.{Answer, IsAnswer, Refused, Spelled, answer}
use Rattle.x690.specs.DerTexts.{der}
use Rattle.x690.specs.Fitting.{Spells}
use Rattle.x690.specs.Layouts.{LaidOut}
use Rattle.x690.specs.Points.{fault, outermost}
use Rattle.x690.specs.ReadTypes.{read_element}
use Rattle.x690.specs.Reading.{Halted, Outcome, Took, run}
use Rattle.x690.specs.Reads.{Needs, Reads, Said}
use Rattle.x690.specs.TypeTerms.{TypeTerm}
use Rattle.x690.specs.Values.{Same, Value}
use Rattle.x690.proofs.Needs.{longer}
use Rattle.x690.proofs.Runs.{taken}
use Rattle.x690_laws.proofs.AnswersOfDocuments.{answered, fits_text, halted_is, judged, long_text, one_answer, rest_apart, spelled_place}
use Rattle.x690_laws.proofs.ReadingOfElements.{sound}
use Rattle.x690_laws.proofs.LengthsOfReadTexts.{read_texts}
use Rattle.x690_laws.proofs.TextsAsLayouts.{same_der}
use Rattle.ber_pull.specs.Hears.{Hears, heard_error}
use Rattle.ber_pull.proofs.Hearing.{hears_given}
use Rattle.asn_documents.specs.ReadValues.{AnswersFault, ReadsValue, StopsReading}

-- what the plain reading answers is the answer by the definitions
pub is_answer : (l : Limits) (T : TypeTerm) (octets : List ℕ) (a : Answer) → answer l T octets ≡ a → IsAnswer l T octets a
is_answer l T octets a e = subst (IsAnswer l T octets) e (one_answer.is_answer l T octets)

answers_fault : (l : Limits) (T : TypeTerm) (octets : List ℕ) (f : Fault) → answer l T octets ≡ Refused f
    → AnswersFault l T octets f
answers_fault l T octets f e = record { is_answer = is_answer l T octets (Refused f) e; answers = e }

-- These octets go on after what is spelled by the first ones of them.
record GoesOn (l : Limits) (T : TypeTerm) (octets text : List ℕ) (n : ℕ) : Type 0 where
  pub value : Value
  pub spelling : List ℕ
  pub octet : ℕ
  pub more : List ℕ
  pub is : octets ≡ spelling ++ (octet ∷ more)
  pub took : (y : List ℕ) → run (read_element l T [] outermost) 0 (spelling ++ y) ≡ Took value n y
  pub spelled : (y : List ℕ) → judged l (Took value n y) ≡ Spelled text n

goes_on : (l : Limits) (T : TypeTerm) (before octets after text : List ℕ) (n : ℕ) → before ≡ octets ++ after
    → answer l T before ≡ Spelled text n → n < length octets → GoesOn l T octets text n
goes_on l T before octets after text n is a past = go (run (read_element l T [] outermost) 0 before) refl
  where
    go : (o : Outcome Value) → run (read_element l T [] outermost) 0 before ≡ o → GoesOn l T octets text n
    go (Halted f) e =
        let turned : Refused f ≡ Spelled text n = sym (halted_is l f) ∙ sym (answered l T before (Halted f) e) ∙ a in cc
    go (Took v q r) e =
        let said = sym (answered l T before (Took v q r) e) ∙ a in
        let place : q ≡ n = spelled_place l v q r text n said in
        let t = taken (read_element l T [] outermost) 0 before v q r e in
        let count = t.place in
        let h = longer octets t.octets after r (sym is ∙ t.is) (omega arith) in
        record {
          value = v;
          spelling = t.octets;
          octet = h.0;
          more = h.1;
          is = h.2;
          took = λ y. t.any_rest y ∙ ap (λ p. Took v p y) place;
          spelled = λ y. sym (ap (λ p. judged l (Took v p y)) place) ∙ rest_apart l v q r y ∙ said;
        }

-- What is asked for doesn't go on so,
needed_within : (l : Limits) (T : TypeTerm) (before octets after text : List ℕ) (n : ℕ) → before ≡ octets ++ after
    → Needs (read_element l T [] outermost) 0 octets → answer l T before ≡ Spelled text n → length octets ≤ n
needed_within l T before octets after text n is needs a =
    ⊎_elim (λ past. absurd (never past)) (λ within. within) (cases_lt n (length octets))
  where
    never : n < length octets → ⊥
    never past =
        let g = goes_on l T before octets after text n is a past in
        let some = needs g.spelling g.octet g.more g.is in
        let all = ap (run (read_element l T [] outermost) 0) (sym (append-nil g.spelling)) ∙ g.took [] in
        let turned : Halted (fault (0 + length g.spelling) Truncated) ≡ Took g.value n [] = sym some ∙ all in
        cc

-- nor octets to which the answer is a fault.
pub refused_within : (l : Limits) (T : TypeTerm) (before octets after text : List ℕ) (n : ℕ) (f : Fault)
    → before ≡ octets ++ after → answer l T octets ≡ Refused f → answer l T before ≡ Spelled text n → length octets ≤ n
refused_within l T before octets after text n f is refused a =
    ⊎_elim (λ past. absurd (never past)) (λ within. within) (cases_lt n (length octets))
  where
    never : n < length octets → ⊥
    never past =
        let g = goes_on l T before octets after text n is a past in
        let took = ap (run (read_element l T [] outermost) 0) g.is ∙ g.took (g.octet ∷ g.more) in
        let turned : Refused f ≡ Spelled text n =
        sym refused ∙ answered l T octets (Took g.value n (g.octet ∷ g.more)) took ∙ g.spelled (g.octet ∷ g.more) in
        cc

-- octets of a list before the same ones after them are as many
same_count : (s octets others behind : List ℕ) → s ≡ octets ++ behind → s ≡ others ++ behind
    → length octets ≡ length others
same_count s octets others behind is is' =
    omega (arith, ap length (sym is ∙ is'), length-append octets behind, length-append others behind)

pub stopped : (l : Limits) (T : TypeTerm) (e : ReadError) (k : ℕ) (s u : Option (List ℕ)) → k ≤ l.octets
    → Hears (read_element l T [] outermost) 0 s (heard_error e) k u → StopsReading l T e s u
unfolding Hears Reads
stopped l T e k None u within x = tt
stopped l T e k (Some s) None within x = absurd x
stopped l T (errors.Fault f) k (Some s) (Some u) within x =
    let count : k ≡ 0 + length x.0.0 = x.0.2 in
    (x.0.0, x.0.1, answers_fault l T s f (answered l T s (Halted f) x.1 ∙ halted_is l f), omega arith)
stopped l T (errors.Read at) k (Some s) (Some u) within x =
    let count : k ≡ 0 + length x.0.0 = x.0.2 in
    let y = x.1 in
    let e : at ≡ 0 + length y.0 = y.2 in (
      y.0,
      y.1,
      (
        omega arith,
        answers_fault l T y.0 (fault at Truncated)
            (answered l T y.0 (Halted (fault at Truncated)) y.3 ∙ halted_is l (fault at Truncated)),
      ),
      omega (arith, same_count s y.0 x.0.0 u y.1 x.0.1),
    )
stopped l T errors.Memory k (Some s) (Some u) within x =
    let count : k ≡ 0 + length x.0.0 = x.0.2 in
    let y = x.1 in (
      y.0,
      y.1,
      λ text n a. needed_within l T s y.0 u text n y.1 y.2 a,
      omega (arith, same_count s y.0 x.0.0 u y.1 x.0.1),
    )

-- octets that the reading takes whole spell the value
spells_all : (l : Limits) (T : TypeTerm) (v : Value) (octets : List ℕ) (k : ℕ)
    → run (read_element l T [] outermost) 0 octets ≡ Took v k [] → length (der v) ≤ l.octets → Spells l T v octets
spells_all l T v octets k h le =
    let s = sound l T [] outermost 0 octets v k [] h in
    let t = s.2 in
    let all : octets ≡ t.octets = t.is ∙ append-nil t.octets in
    let c : length t.octets ≡ s.0 = t.count in
    let n : length octets ≡ length t.octets = ap length all in
    let i : 0 + s.0 ≤ l.octets = t.in_limit in
    let d = t.depth_fits in
    record {
      tree = t.tree;
      depth_fits = omega arith;
      laid_out = subst (LaidOut t.tree) (sym all) t.laid_out;
      fits = t.fits;
      octets_fit = omega arith;
      text_fits = le;
    }

whole : (l : Limits) (T : TypeTerm) (v w : Value) (s u : Option (List ℕ)) (octets : List ℕ) (k : ℕ) → Same v w
    → length (der w) ≤ l.octets → Consumes s u octets → k ≡ 0 + length octets
    → ((more : List ℕ) → run (read_element l T [] outermost) 0 (octets ++ more) ≡ Took v k more)
    → ReadsValue l T w s u k
whole l T v w s u octets k same le takes count any =
    let text : der v ≡ der w = same_der v w same in
    let le' : length (der v) ≤ l.octets = subst (λ z. length z ≤ l.octets) (sym text) le in
    let all : (more : List ℕ) → answer l T (octets ++ more) ≡ Spelled (der w) k =
    λ more.
    answered l T (octets ++ more) (Took v k more) (any more) ∙ fits_text l v k more le' ∙ ap (λ z. Spelled z k) text in
    record {
      octets = octets;
      takes = takes;
      taken_are = omega (arith, count);
      spelled = v;
      spells =
          spells_all l T v octets k (ap (run (read_element l T [] outermost) 0) (sym (append-nil octets)) ∙ any []) le';
      same = same;
      is_answer = λ more. is_answer l T (octets ++ more) (Spelled (der w) k) (all more);
      answers = all;
    }

pub said : (l : Limits) (T : TypeTerm) (v w : Value) (k : ℕ) (s u : Option (List ℕ)) → Same v w
    → length (der w) ≤ l.octets → Hears (read_element l T [] outermost) 0 s (Said v) k u → ReadsValue l T w s u k
unfolding Hears Reads
said l T v w k None u same le x =
    let t = taken (read_element l T [] outermost) 0 x.0 v k [] x.2 in
    whole l T v w None u t.octets k same le tt t.place t.any_rest
said l T v w k (Some s) None same le x = absurd x
said l T v w k (Some s) (Some u) same le x =
    let t = taken (read_element l T [] outermost) 0 s v k u x.1 in
    whole l T v w (Some s) (Some u) t.octets k same le t.is t.place t.any_rest

-- Its text has at most twice the octets that were taken.
pub at_most_doubled : (l : Limits) (T : TypeTerm) (v w : Value) (k : ℕ) (s u : Option (List ℕ)) → Same v w
    → l.octets ≤ 2147483647 → Hears (read_element l T [] outermost) 0 s (Said v) k u → length (der w) ≤ 2 * k
at_most_doubled l T v w k s u same most x =
    let given = hears_given (read_element l T [] outermost) v 0 k s u x in
    let two = (read_texts.element l T [] outermost 0 given.0 v k [] (omega arith) given.2).by_two in
    omega (arith, two, ap length (same_der v w same))

-- its text is too long
pub too_long : (l : Limits) (T : TypeTerm) (v w : Value) (k : ℕ) (s u : Option (List ℕ)) → Same v w
    → l.octets < length (der w) → Hears (read_element l T [] outermost) 0 s (Said v) k u
    → StopsReading l T (errors.Fault (fault 0 TextTooLong)) s u
unfolding Hears Reads
too_long l T v w k None u same lt x = tt
too_long l T v w k (Some s) None same lt x = absurd x
too_long l T v w k (Some s) (Some u) same lt x =
    let text : der w ≡ der v = sym (same_der v w same) in
    let took = sound l T [] outermost 0 s v k u x.1 in
    let place : k ≡ 0 + took.0 = took.1 in
    let limit : 0 + took.0 ≤ l.octets = took.2.in_limit in
    let count : k ≡ 0 + length x.0.0 = x.0.2 in (
      x.0.0,
      x.0.1,
      answers_fault l T s (fault 0 TextTooLong)
          (answered l T s (Took v k u) x.1 ∙ long_text l v k u (subst (λ z. l.octets < length z) text lt)),
      omega arith,
    )

-- the text of a value that was read is within the limit
pub text_within : (l : Limits) (type : TypeTerm) (v : Value) (before after : Option (List ℕ)) (taken : ℕ)
    → ReadsValue l type v before after taken → length (der v) ≤ l.octets
text_within l type v before after taken r =
    omega (arith, r.spells.text_fits, ap length (same_der r.spelled v r.same))
