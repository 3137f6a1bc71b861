-- What was read of a value of a type, and written: by the laws on answers, for every lawful type.
use Rattle.std.proofs.Common.{◌≡◌, ◌∙◌, ◌++◌, ◌<◌, ◌≤◌, List, None, Option, Some, [], ℕ, ap, append-nil, arith, length, sym, subst, take}
use Rattle.std.proofs.lemmas.List.{take_all}
use Rattle.std.specs.Io.KnownBytes.{Appends}
use Rattle.tlv_core.specs.Limits.{IsLimits, Limits}
use Rattle.tlv_core.specs.declared.fault.ReadError.{ReadError}
use Rattle.tlv_core.specs.declared.fault.ReadError.TheVariants as errors
use Rattle.x690.specs.Answers.{Spelled, answer}
use Rattle.x690.specs.DerTexts.{der}
use Rattle.x690.specs.Fitting.{Spells}
use Rattle.x690.specs.Premises.{Lawful}
use Rattle.x690.specs.TypeTerms.{TypeTerm}
use Rattle.x690.specs.Values.{Same, Value}
use Rattle.x690_laws.proofs.AnswersOfDocuments.{refused_is_spelled_by_none, spelling_is_answered, texts_tell_values}
use Rattle.x690_laws.proofs.LayoutsOfHeaders.{split_alone}
use Rattle.x690_laws.proofs.TextsSpell.{text_spells}
use Rattle.x690_laws.proofs.ValuesSame.{equivalence}
use Rattle.x690_laws.proofs.TextsAsLayouts.{same_der}
use Rattle.asn_documents.specs.AtHand.{StandsAtHand}
use Rattle.asn_documents.specs.ReadValues.{ReadsValue, StopsReading}
use Rattle.asn_elements.specs.Whole.{TellsInsideOf}
use Rattle.asn_documents.specs.Normalised.{NormalisedAs, Took, Unread, WrittenInPart}
use Rattle.asn_documents.proofs.AtHand.{reads_at_hand}

spelled_text : (t t' : List ℕ) (n n' : ℕ) → Spelled t n ≡ Spelled t' n' → t ≡ t'
spelled_text t t' n n' e = cc

spelled_count : (t t' : List ℕ) (n n' : ℕ) → Spelled t n ≡ Spelled t' n' → n ≡ n'
spelled_count t t' n n' e = cc

-- octets begin with one spelling, of one value
pub one_spelling : (l : Limits) (T : TypeTerm) (v w : Value) (octets octets' rest rest' : List ℕ) → Lawful T
    → IsLimits l → Spells l T v octets → Spells l T w octets' → octets ++ rest ≡ octets' ++ rest'
    → (octets ≡ octets') × Same v w
one_spelling l T v w octets octets' rest rest' lawful fine s t e =
    let a = sym (spelling_is_answered l T v octets rest lawful.fair s) ∙ ap (answer l T) e
    ∙ spelling_is_answered l T w octets' rest' lawful.fair t in
    let many : length octets ≡ length octets' = spelled_count (der v) (der w) _ _ a in
    let most = fine.most_octets in (
      (split_alone octets octets' rest rest' many e).0,
      texts_tell_values.one_value l l T v w octets octets' lawful (omega arith) s t
          (spelled_text (der v) (der w) _ _ a),
    )

unfoldable pub took_as : (l : Limits) (T : TypeTerm) (w : Value) (before after : Option (List ℕ)) (taken : ℕ) → Lawful T
    → IsLimits l → (r : ReadsValue l T w before after taken) → Took l T r.spelled before after taken
took_as l T w before after taken lawful fine r = record {
  octets = r.octets;
  takes = r.takes;
  taken_are = r.taken_are;
  spells = r.spells;
  one = λ other behind more rest e s.
      one_spelling l T other r.spelled more r.octets rest behind lawful fine s r.spells (sym e);
}

-- the octets that were taken are answered as what they spell
pub took_answers : (l : Limits) (T : TypeTerm) (v : Value) (before after : Option (List ℕ)) (count : ℕ) → Lawful T
    → (t : Took l T v before after count) → (more : List ℕ)
    → answer l T (t.octets ++ more) ≡ Spelled (der v) (length t.octets)
took_answers l T v before after count lawful t more = spelling_is_answered l T v t.octets more lawful.fair t.spells

pub normalised_as : (l : Limits) (T : TypeTerm) (w : Value) (before after old new : Option (List ℕ)) (taken written : ℕ)
    → Lawful T → IsLimits l → ReadsValue l T w before after taken → Appends old new (der w) → written ≡ length (der w)
    → (value : Value) × NormalisedAs l T value before after old new taken written
normalised_as l T w before after old new taken written lawful fine r text count =
    let v = r.spelled in
    let most = fine.most_octets in
    let short : l.octets < 2147483648 = omega arith in
    let text_is : der w ≡ der v = sym (same_der v w r.same) in
    let back = text_spells l T v r.octets lawful.distinct (omega arith) r.spells in (
      v,
      record {
        took = took_as l T w before after taken lawful fine r;
        writes = subst (Appends old new) text_is text;
        written_are = count ∙ ap length text_is;
        reads_back = back;
        again = λ other behind more rest e s.
            let one = one_spelling l T other v more (der v) rest behind lawful fine s back (sym e) in
            (one.0, same_der other v one.1);
        same = λ l' other input s. (
          λ e.
              equivalence.same_sym v other
              (texts_tell_values.one_value l l' T v other r.octets input lawful short r.spells s (sym e)),
          λ same. same_der other v same,
        );
      },
    )

-- octets in DER are written as they are
pub written_as_given : (l : Limits) (T : TypeTerm) (octets : List ℕ) (taken : ℕ) → Lawful T → IsLimits l
    → StandsAtHand l T octets taken → taken ≡ length octets
    → (value : Value)
    × NormalisedAs l T value (Some octets) (Some []) (Some []) (Some octets) (length octets) (length octets)
written_as_given l T octets taken lawful fine s all =
    let whole : take taken octets ≡ octets = take_all taken octets (omega (arith, all)) in
    let text : octets ≡ der s.value = sym whole ∙ s.text in
    let reads = reads_at_hand l T octets (Some octets) (Some []) taken lawful s
    (sym (append-nil (take taken octets) ∙ whole)) in
    normalised_as l T s.value (Some octets) (Some []) (Some []) (Some octets) (length octets) (length octets) lawful
    fine (subst (ReadsValue l T s.value (Some octets) (Some [])) all reads) text (ap length text)

pub in_part : (l : Limits) (T : TypeTerm) (w : Value) (before after old new : Option (List ℕ)) (taken written : ℕ)
    → Lawful T → IsLimits l → ReadsValue l T w before after taken → written ≤ length (der w)
    → Appends old new (take written (der w))
    → (value : Value) × WrittenInPart l T value before after old new written
in_part l T w before after old new taken written lawful fine r le out =
    let text_is : der w ≡ der r.spelled = sym (same_der r.spelled w r.same) in (
      r.spelled,
      record {
        taken = taken;
        took = took_as l T w before after taken lawful fine r;
        within = subst (λ z. written ≤ length z) text_is le;
        writes = subst (λ z. Appends old new (take written z)) text_is out;
      },
    )

pub unread_as : (l : Limits) (T : TypeTerm) (e : ReadError) (before after : Option (List ℕ)) → Lawful T
    → TellsInsideOf e → StopsReading l T e before after → Unread l T e before
unread_as l T (errors.Fault f) None after lawful inside s = inside
unread_as l T (errors.Fault f) (Some before) None lawful inside s = absurd s
unread_as l T (errors.Fault f) (Some before) (Some after) lawful inside s =
    (inside, refused_is_spelled_by_none l T before f lawful.fair s.2.answers)
unread_as l T (errors.Read at) before after lawful inside s = tt
unread_as l T errors.Memory before after lawful inside s = tt
