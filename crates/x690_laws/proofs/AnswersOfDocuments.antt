-- The laws on the answer to a whole document.
use Rattle.std.proofs.Common.{◌≡◌, ℕ, ◌+◌, ◌≤◌, ◌<◌, ◌⊎◌, inl, inr, nat_le, Bool, true, false, List, [], ◌++◌, length, refl, sym, ◌∙◌, ap, ap₂, subst, arith, append-nil}
use Rattle.std.proofs.lemmas.Bool.Decides.{nat_tests}
use Rattle.tlv_core.specs.Limits.{Limits}
use Rattle.tlv_core.specs.declared.fault.Fault.{Fault}
use Rattle.tlv_core.specs.declared.reason.Reason.TheVariants.{TextTooLong, Truncated}
use Rattle.x690.specs.Answers.{Answer, IsAnswer, Refused, Spelled, SpelledBy, answer}
use Rattle.x690.specs.DerTexts.{der}
use Rattle.x690.specs.Fitting.{Spells}
use Rattle.tlv_core.specs.Faults.{InsideMatches}
use Rattle.x690.specs.Points.{fault, outermost}
use Rattle.x690.specs.Premises.{Fair, Honest}
use Rattle.x690.specs.ReadTypes.{read_document, read_element}
use Rattle.x690.specs.Reading.{Halted, Outcome, Took, run}
use Rattle.x690.specs.Takes.{Proper, Takes}
use Rattle.x690.specs.TypeTerms.{TypeTerm}
use Rattle.x690.specs.Values.{Value}
use Rattle.x690_laws.proofs.FaultsExact.{exact}
use Rattle.x690_laws.proofs.FaultsPlaced.{inside_of_faults, truncated_at_the_end}
use Rattle.x690_laws.proofs.ReadingOfElements.{complete, sound}
use Rattle.x690_laws.proofs.TextsSpell.{one_text, text_spells}
use Rattle.x690.proofs.Runs.{halt_more, took_more}
use Rattle.x690_laws.proofs.FaultsOfReading.{faithful}
use Rattle.x690_laws.proofs.TextsAsLayouts.{same_der}
use Rattle.x690_laws.specs.AnswerLaws.{InsideOfAnswers, NeededOctets, OneAnswer, RefusedIsSpelledByNone, SpellingIsAnswered, TextAnswersItself, TextsTellValues}

-- the answer, of the outcome of the reading
pub judged : Limits → Outcome Value → Answer
judged l (Halted f) = Refused f
judged l (Took v n r) =
    elim (nat_le (length (der v)) l.octets) [ true ↦ Spelled (der v) n | false ↦ Refused (fault 0 TextTooLong) ]

pub answered : (l : Limits) (T : TypeTerm) (b : List ℕ) (o : Outcome Value)
    → run (read_element l T [] outermost) 0 b ≡ o → answer l T b ≡ judged l o
unfolding answer read_document judged
answered l T b o e = go (run (read_element l T [] outermost) 0 b) ∙ ap (judged l) e
  where
    go : (o : Outcome Value)
        → elim o [
          | Halted f ↦ Refused f
          | Took v n r ↦ elim (nat_le (length (der v)) l.octets) [
            | true ↦ Spelled (der v) n
            | false ↦ Refused (fault 0 TextTooLong)
          ]
        ]
        ≡ judged l o
    go (Halted f) = refl
    go (Took v n r) = refl

pub halted_is : (l : Limits) (f : Fault) → judged l (Halted f) ≡ Refused f
unfolding judged
halted_is l f = refl

refused_one : (f g : Fault) → Refused f ≡ Refused g → f ≡ g
refused_one f g e = cc

long_only : (l : Limits) (v : Value) (n : ℕ) (r : List ℕ) (f : Fault) → judged l (Took v n r) ≡ Refused f
    → f ≡ fault 0 TextTooLong
unfolding judged
long_only l v n r f h = go (nat_le (length (der v)) l.octets) h
  where
    go : (x : Bool) → elim x [ true ↦ Spelled (der v) n | false ↦ Refused (fault 0 TextTooLong) ] ≡ Refused f
        → f ≡ fault 0 TextTooLong
    go true e = cc
    go false e = cc

-- of what is spelled the place after what was taken is told
pub spelled_place : (l : Limits) (v : Value) (n : ℕ) (r text : List ℕ) (m : ℕ) → judged l (Took v n r) ≡ Spelled text m
    → n ≡ m
unfolding judged
spelled_place l v n r text m h = go (nat_le (length (der v)) l.octets) h
  where
    go : (x : Bool) → elim x [ true ↦ Spelled (der v) n | false ↦ Refused (fault 0 TextTooLong) ] ≡ Spelled text m
        → n ≡ m
    go true e = cc
    go false e = cc

pub rest_apart : (l : Limits) (v : Value) (q : ℕ) (r r' : List ℕ) → judged l (Took v q r') ≡ judged l (Took v q r)
unfolding judged
rest_apart l v q r r' = refl

pub nothing_around : Proper outermost
nothing_around e h = cc

pub fits_text : (l : Limits) (v : Value) (n : ℕ) (r : List ℕ) → length (der v) ≤ l.octets
    → judged l (Took v n r) ≡ Spelled (der v) n
unfolding judged
fits_text l v n r le = go (nat_le (length (der v)) l.octets) (grind (arith, nat_tests))
  where
    go : (x : Bool) → x ≡ true
        → elim x [ true ↦ Spelled (der v) n | false ↦ Refused (fault 0 TextTooLong) ] ≡ Spelled (der v) n
    go true e = refl
    go false e = cc

pub long_text : (l : Limits) (v : Value) (n : ℕ) (r : List ℕ) → l.octets < length (der v)
    → judged l (Took v n r) ≡ Refused (fault 0 TextTooLong)
unfolding judged
long_text l v n r lt = go (nat_le (length (der v)) l.octets) (grind (arith, nat_tests))
  where
    go : (x : Bool) → x ≡ false
        → elim x [ true ↦ Spelled (der v) n | false ↦ Refused (fault 0 TextTooLong) ] ≡ Refused (fault 0 TextTooLong)
    go true e = cc
    go false e = refl

-- what is taken of a document, and not too long a text, is spelled
spelled_by : (l : Limits) (T : TypeTerm) (b : List ℕ) (v : Value) (q n : ℕ) (r : List ℕ) → q ≡ 0 + n
    → Takes l T [] outermost 0 b v n r → length (der v) ≤ l.octets → SpelledBy l T b (der v) q
spelled_by l T b v q n r e t le =
    let c : length t.octets ≡ n = t.count in
    let i : 0 + n ≤ l.octets = t.in_limit in
    let d = t.depth_fits in
    record {
      value = v;
      first = t.octets;
      rest = r;
      is = t.is;
      count = omega (arith, e);
      spells = record {
        tree = t.tree;
        depth_fits = omega arith;
        laid_out = t.laid_out;
        fits = t.fits;
        octets_fit = omega arith;
        text_fits = le;
      };
      text_is = refl;
    }

taken_by : (l : Limits) (T : TypeTerm) (v : Value) (first rest : List ℕ) → Spells l T v first
    → Takes l T [] outermost 0 (first ++ rest) v (length first) rest
taken_by l T v first rest s = record {
  tree = s.tree;
  octets = first;
  is = refl;
  count = refl;
  laid_out = s.laid_out;
  in_bound = refl;
  in_limit = let z = s.octets_fit in omega arith;
  depth_fits = let z = s.depth_fits in omega arith;
  fits = s.fits;
}

outcome_is_answer : (l : Limits) (T : TypeTerm) (b : List ℕ) (o : Outcome Value)
    → run (read_element l T [] outermost) 0 b ≡ o → IsAnswer l T b (judged l o)
unfolding judged
outcome_is_answer l T b (Halted f) e = inl (faithful l T [] outermost 0 b f e)
outcome_is_answer l T b (Took v q r) e =
    let s = sound l T [] outermost 0 b v q r e in go (nat_le (length (der v)) l.octets) refl s.0 s.1 s.2
  where
    go : (x : Bool) → nat_le (length (der v)) l.octets ≡ x → (n : ℕ) → q ≡ 0 + n → Takes l T [] outermost 0 b v n r
        → IsAnswer l T b (elim x [ true ↦ Spelled (der v) q | false ↦ Refused (fault 0 TextTooLong) ])
    go true x n p t = spelled_by l T b v q n r p t (grind (arith, nat_tests))
    go false x n p t =
        inr (record { value = v; taken = n; rest = r; takes = t; too_long = grind (arith, nat_tests) }, refl)

spelling_is : (l : Limits) (T : TypeTerm) (v : Value) (first rest : List ℕ) → Fair T → Spells l T v first
    → answer l T (first ++ rest) ≡ Spelled (der v) (length first)
spelling_is l T v first rest fr s =
    let x =
    complete l T [] outermost 0 (first ++ rest) v (length first) rest fr nothing_around (taken_by l T v first rest s) in
    let e : der v ≡ der x.0 = same_der v x.0 x.1 in
    let le : length (der x.0) ≤ l.octets = subst (λ z. length z ≤ l.octets) e s.text_fits in
    let z : 0 + length first ≡ length first = omega arith in
    answered l T (first ++ rest) (Took x.0 (0 + length first) rest) x.2
    ∙ fits_text l x.0 (0 + length first) rest le
    ∙ ap₂ (λ a n. Spelled a n) (sym e) z

pub spelling_is_answered : SpellingIsAnswered
spelling_is_answered l T v b rest fr s = spelling_is l T v b rest fr s

no_other : (l : Limits) (T : TypeTerm) (b : List ℕ) (a : Answer) → Fair T → IsAnswer l T b a → a ≡ answer l T b
no_other l T b (Spelled t n) fr h =
    ap₂ (λ x y. Spelled x y) h.text_is (sym h.count)
    ∙ sym (spelling_is l T h.value h.first h.rest fr h.spells)
    ∙ ap (λ x. answer l T x) (sym h.is)
no_other l T b (Refused f) fr (inl h) =
    sym (answered l T b (Halted f) (exact l T [] outermost 0 b f fr nothing_around h) ∙ halted_is l f)
no_other l T b (Refused f) fr (inr (t, e)) =
    let x = complete l T [] outermost 0 b t.value t.taken t.rest fr nothing_around t.takes in
    let s : der t.value ≡ der x.0 = same_der t.value x.0 x.1 in
    ap Refused e
    ∙ sym (answered l T b (Took x.0 (0 + t.taken) t.rest) x.2
    ∙ long_text l x.0 (0 + t.taken) t.rest (subst (λ z. l.octets < length z) s t.too_long))

pub one_answer : OneAnswer
one_answer = record {
  is_answer = λ l T b.
      let o = run (read_element l T [] outermost) 0 b in
      subst (IsAnswer l T b) (sym (answered l T b o refl)) (outcome_is_answer l T b o refl);
  no_other = no_other;
}

clash : (a : Answer) (f : Fault) (t : List ℕ) (n : ℕ) → a ≡ Refused f → a ≡ Spelled t n → ⊥
clash a f t n e g = cc

pub refused_is_spelled_by_none : RefusedIsSpelledByNone
refused_is_spelled_by_none l T b f fr h v first rest e s =
    clash (answer l T b) f (der v) (length first) h (ap (λ x. answer l T x) e ∙ spelling_is l T v first rest fr s)

more_octets : (l : Limits) (T : TypeTerm) (b : List ℕ) (o : Outcome Value) → run (read_element l T [] outermost) 0 b ≡ o
    → (answer l T b ≡ Refused (fault (length b) Truncated)) ⊎ ((x : List ℕ) → answer l T (b ++ x) ≡ answer l T b)
more_octets l T b (Took v q r) e =
    inr (λ x.
    answered l T (b ++ x) (Took v q (r ++ x)) (took_more (read_element l T [] outermost) 0 b x v q r e)
    ∙ rest_apart l v q r (r ++ x) ∙ sym (answered l T b (Took v q r) e))
more_octets l T b (Halted f) e = go (halt_more (read_element l T [] outermost) 0 b f e)
  where
    go : (f ≡ fault (0 + length b) Truncated)
        ⊎ ((x : List ℕ) → run (read_element l T [] outermost) 0 (b ++ x) ≡ Halted f)
        → (answer l T b ≡ Refused (fault (length b) Truncated)) ⊎ ((x : List ℕ) → answer l T (b ++ x) ≡ answer l T b)
    go (inl h) =
        let z : 0 + length b ≡ length b = omega arith in
        inl (answered l T b (Halted f) e ∙ halted_is l f ∙ ap Refused (h ∙ ap (λ n. fault n Truncated) z))
    go (inr h) = inr (λ x. answered l T (b ++ x) (Halted f) (h x) ∙ sym (answered l T b (Halted f) e))

-- a fault of the answer is the reading's, or that the text is too long
refused_by : (l : Limits) (T : TypeTerm) (b : List ℕ) (f : Fault) → answer l T b ≡ Refused f
    → (run (read_element l T [] outermost) 0 b ≡ Halted f) ⊎ (f ≡ fault 0 TextTooLong)
refused_by l T b f h = go (run (read_element l T [] outermost) 0 b) refl
  where
    go : (o : Outcome Value) → run (read_element l T [] outermost) 0 b ≡ o
        → (run (read_element l T [] outermost) 0 b ≡ Halted f) ⊎ (f ≡ fault 0 TextTooLong)
    go (Halted g) e =
        let z : Refused g ≡ Refused f = sym (answered l T b (Halted g) e ∙ halted_is l g) ∙ h in
        inl (e ∙ ap Halted (refused_one g f z))
    go (Took v n r) e = inr (long_only l v n r f (sym (answered l T b (Took v n r) e) ∙ h))

pub needed_octets : NeededOctets
needed_octets = record {
  more = λ l T b. more_octets l T b (run (read_element l T [] outermost) 0 b) refl;
  truncated = λ l T b f hn h w. go l T b f hn w (refused_by l T b f h);
}
  where
    go : (l : Limits) (T : TypeTerm) (b : List ℕ) (f : Fault) → Honest T → f.why ≡ Truncated
        → (run (read_element l T [] outermost) 0 b ≡ Halted f) ⊎ (f ≡ fault 0 TextTooLong)
        → f ≡ fault (length b) Truncated
    go l T b f hn w (inl h) =
        let z : 0 + length b ≡ length b = omega arith in
        truncated_at_the_end l T [] outermost 0 b f hn h w ∙ ap (λ n. fault n Truncated) z
    go l T b f hn w (inr h) = let z : TextTooLong ≡ Truncated = sym (ap (λ x. x.why) h) ∙ w in cc

pub inside_of_answers : InsideOfAnswers
inside_of_answers l T b f hn h = go (refused_by l T b f h)
  where
    go : (run (read_element l T [] outermost) 0 b ≡ Halted f) ⊎ (f ≡ fault 0 TextTooLong) → InsideMatches f
    go (inl e) = inside_of_faults l T [] outermost 0 b f hn e
    go (inr e) = subst InsideMatches (sym e) (λ z. cc, λ z. cc)

pub text_answers_itself : TextAnswersItself
text_answers_itself l T b t n lw lt h =
    let s = subst (IsAnswer l T b) h (one_answer.is_answer l T b) in
    let x = text_spells l T s.value s.first lw.distinct (omega (arith, lt)) s.spells in
    ap (λ z. answer l T z) (s.text_is ∙ sym (append-nil (der s.value)))
    ∙ spelling_is l T s.value (der s.value) [] lw.fair x
    ∙ ap₂ (λ a c. Spelled a c) (sym s.text_is) (ap length (sym s.text_is))

pub texts_tell_values : TextsTellValues
texts_tell_values = record {
  one_text = same_der;
  one_value = λ l l' T v w b c lw lt h k e. one_text l l' T v w b c lw.distinct lt h k e;
}
