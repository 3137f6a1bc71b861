-- Octets that are one document, all of them: what is said where the source ends after it.
use Rattle.std.proofs.Common.{◌≡◌, ◌↔◌, ◌∙◌, ◌⊎◌, ◌++◌, ◌*◌, ◌≤◌, Bool, Err, IfErr, IfOk, IsTrue, List, MatchResult, None, Ok, Option, Result, Some, [], ℕ, ap, append-nil, append_assoc, arith, inl, inr, length, refl, subst, sym}
use Rattle.std.proofs.lemmas.List.{length-append}
use Rattle.tlv_core.specs.Limits.{IsLimits, Limits}
use Rattle.tlv_core.specs.declared.fault.Fault.{Fault}
use Rattle.tlv_core.specs.declared.fault.ReadError.{ReadError}
use Rattle.tlv_core.specs.declared.fault.ReadError.TheVariants as errors
use Rattle.x690.specs.DerTexts.{der}
use Rattle.x690.specs.Fitting.{Spells}
use Rattle.x690.specs.TypeTerms.{TypeTerm}
use Rattle.x690.specs.Values.{Value}
use Rattle.x690_laws.proofs.GrowthBounds.{growth_by_two}
use Rattle.asn_documents.specs.Checked.{CheckedAs, Unchecked}
use Rattle.asn_documents.specs.Normalised.{Took}
use Rattle.asn_documents.specs.ReadValues.{ReadsValue}
use Rattle.asn_documents.specs.WholeInputs.{Followed}
use Rattle.asn_documents.proofs.Normalising.{took_as}
use Rattle.pk_documents.specs.Documents.{kind_of}
use Rattle.pk_documents.specs.Encodings.{IsEncoding}
use Rattle.pk_documents.specs.Kinds.{type_of}
use Rattle.pk_documents.specs.RequestParts.{part_of}
use Rattle.pk_documents.specs.declared.document.Document.{Document}
use Rattle.pk_documents.specs.declared.kind.Kind.{Kind}
use Rattle.pk_documents.specs.declared.kind.Kind.TheVariants.{Request}
use Rattle.pk_documents.specs.declared.request_part.Part.{Part}
use Rattle.pk_documents.proofs.LawfulKinds.{kinds_are_lawful}
use Rattle.pk_documents.proofs.RequestParts.{part_same}
use Rattle.pk_show.specs.Shown.{document_lines}
use Rattle.explain.specs.Received.{NotReceived, Received}
use Rattle.pkder_c.specs.Refusals.{first_refusal, second_refusal, unread_refusal}
use Rattle.pkder_c.specs.Wholes.{WholeChecked, WholeFault, WholeLines, WholePairRefused, WholeRefused, WholeSame, WholeWritten}
use Rattle.pkder_c.specs.declared.refusal.PairRefusal.{PairRefusal}
use Rattle.pkder_c.specs.declared.refusal.Refusal.{Refusal}
use Rattle.pkder_c.specs.declared.refusal.Refusal.TheVariants as refusals

-- ---- what was taken is all

count_all : (given rest octets : List ℕ) (taken : ℕ) → rest ≡ [] → given ≡ octets ++ rest → taken ≡ length octets
    → taken ≡ length given
count_all given rest octets taken ends is count =
    count ∙ ap length (sym (is ∙ ap (λ z. octets ++ z) ends ∙ append-nil octets))

took_all : (l : Limits) (T : TypeTerm) (v : Value) (given rest : List ℕ) (taken : ℕ) → rest ≡ []
    → Took l T v (Some given) (Some rest) taken → Took l T v (Some given) (Some []) (length given)
took_all l T v given rest taken ends t =
    subst (λ z. Took l T v (Some given) (Some z) (length given)) ends
    (subst (λ z. Took l T v (Some given) (Some rest) z)
    (count_all given rest t.octets taken ends t.takes t.taken_are) t)

reads_all : (l : Limits) (T : TypeTerm) (v : Value) (given rest : List ℕ) (taken : ℕ) → rest ≡ []
    → ReadsValue l T v (Some given) (Some rest) taken → ReadsValue l T v (Some given) (Some []) (length given)
reads_all l T v given rest taken ends r =
    subst (λ z. ReadsValue l T v (Some given) (Some z) (length given)) ends
    (subst (λ z. ReadsValue l T v (Some given) (Some rest) z)
    (count_all given rest r.octets taken ends r.takes r.taken_are) r)

-- ---- what was normalised

by_two : (l : Limits) (T : TypeTerm) (v : Value) (octets : List ℕ) → IsLimits l → Spells l T v octets
    → length (der v) ≤ 2 * length octets
by_two l T v octets fine s =
    growth_by_two _ _ _ _ v octets (omega (arith, fine.most_octets, s.octets_fit)) s.laid_out s.fits

pub text_room : (l : Limits) (T : TypeTerm) (given text : List ℕ) → IsLimits l → IsEncoding l T given text
    → length text ≤ 2 * length given
text_room l T given text fine whole =
    let n = whole.1 in
    omega (arith, by_two l T whole.0 n.took.octets fine n.took.spells, n.took.taken_are, n.written_are)

-- ---- what was checked

pub place_made : (l : Limits) (T : TypeTerm) (given rest : List ℕ) (taken : ℕ) (place : Option ℕ) → rest ≡ []
    → (value : Value) × CheckedAs l T value (Some given) (Some rest) taken place → WholeChecked l T given place
place_made l T given rest taken place ends c =
    let v = c.0 in
    let t = c.1.took in (
      v,
      subst (λ z. CheckedAs l T v (Some given) (Some z) (length given) place) ends
          (subst (λ z. CheckedAs l T v (Some given) (Some rest) z place)
          (count_all given rest t.octets taken ends t.takes t.taken_are) c.1),
    )

-- ---- what was compared

pub same_made : (l : Limits) (T : TypeTerm) (first second text other : List ℕ) (same : Bool)
    → (IsTrue same ↔ (text ≡ other)) → IsEncoding l T first text → IsEncoding l T second other
    → WholeSame l T first second same
same_made l T first second text other same is n m =
    let took = n.1.took in
    let texts : IsTrue same ↔ (der n.0 ≡ der m.0) =
    (λ h. sym n.1.writes ∙ is.0 h ∙ m.1.writes, λ e. is.1 (n.1.writes ∙ e ∙ sym m.1.writes)) in
    let answered = m.1.same l n.0 took.octets took.spells in
    record {
      value = n.0;
      other = m.0;
      took = took;
      took_other = m.1.took;
      values = (λ h. answered.0 (texts.0 h), λ s. texts.1 (answered.1 s));
      texts = texts;
    }

first_made : (l : Limits) (T : TypeTerm) (first second : List ℕ) (refusal : Refusal) → WholeRefused l T first refusal
    → WholePairRefused l T first second (first_refusal refusal)
first_made l T first second refusals.Call h = absurd h
first_made l T first second (refusals.Fault found) h = h
first_made l T first second refusals.Memory h = tt

pub first_pair : (l : Limits) (T : TypeTerm) (first second : List ℕ) (refusal : Refusal) (made : PairRefusal)
    → made ≡ first_refusal refusal → WholeRefused l T first refusal → WholePairRefused l T first second made
first_pair l T first second refusal made is h =
    subst (WholePairRefused l T first second) (sym is) (first_made l T first second refusal h)

second_made : (l : Limits) (T : TypeTerm) (first second text : List ℕ) (refusal : Refusal) → IsEncoding l T first text
    → WholeRefused l T second refusal → WholePairRefused l T first second (second_refusal refusal)
second_made l T first second text refusals.Call n h = absurd h
second_made l T first second text (refusals.Fault found) n h = ((n.0, n.1.took), h)
second_made l T first second text refusals.Memory n h = tt

pub second_pair : (l : Limits) (T : TypeTerm) (first second text : List ℕ) (refusal : Refusal) (made : PairRefusal)
    → made ≡ second_refusal refusal → IsEncoding l T first text → WholeRefused l T second refusal
    → WholePairRefused l T first second made
second_pair l T first second text refusal made is n h =
    subst (WholePairRefused l T first second) (sym is) (second_made l T first second text refusal n h)

-- ---- what was shown, and parts

pub lines_made : {V : Type 0} (made : Result V Refusal) (items : V → List ℕ) (value_of : Document → Value) (l : Limits)
    (kind : Kind) (given rest : List ℕ) (document : Document) (taken : ℕ)
    → kind_of document ≡ kind → rest ≡ []
    → ReadsValue l (type_of kind) (value_of document) (Some given) (Some rest) taken
    → IfOk made (λ text. items text ≡ document_lines document)
    → IfOk made (λ text. WholeLines value_of l kind given (items text))
lines_made (Ok text) items value_of l kind given rest document taken k ends r is =
    (document, k, reads_all l (type_of kind) (value_of document) given rest taken ends r, is)
lines_made (Err refusal) items value_of l kind given rest document taken k ends r is = tt

pub written_made : {V : Type 0} (made : Result V Refusal) (items : V → List ℕ) (l : Limits) (part : Part)
    (given rest : List ℕ) (value : Value) (taken : ℕ)
    → IsLimits l → rest ≡ []
    → ReadsValue l (type_of Request) value (Some given) (Some rest) taken
    → IfOk made (λ text. items text ≡ part_of part value) → IfOk made (λ text. WholeWritten l part given (items text))
written_made (Ok text) items l part given rest value taken fine ends r is =
    let took = took_as l (type_of Request) value (Some given) (Some rest) taken (kinds_are_lawful Request) fine r in (
      r.spelled,
      took_all l (type_of Request) r.spelled given rest taken ends took,
      is ∙ sym (part_same part r.spelled value r.same),
    )
written_made (Err refusal) items l part given rest value taken fine ends r is = tt

-- the copy of what came
pub copied : {V : Type 0} (made : Result V Refusal) (items : V → List ℕ) (l : Limits) (given octets : List ℕ)
    → Received l given octets → IfOk made (λ copy. items copy ≡ octets)
    → IfOk made (λ copy. Received l given (items copy))
copied (Ok copy) items l given octets came is = subst (Received l given) (sym is) came
copied (Err refusal) items l given octets came is = tt

-- nothing but memory was wanting
pub only_memory : {V : Type 0} (made : Result V Refusal) (l : Limits) (T : TypeTerm) (given : List ℕ)
    → IfErr made (λ refusal. refusal ≡ refusals.Memory) → IfErr made (WholeRefused l T given)
only_memory (Ok text) l T given is = tt
only_memory (Err refusal) l T given is = subst (WholeRefused l T given) (sym is) tt

-- ---- what was not read

unread : (l : Limits) (T : TypeTerm) (error : ReadError) (given after : List ℕ)
    → Unchecked l T error (Some given) (Some after) ⊎ Followed l T error (Some given) (Some after)
    → WholeRefused l T given (unread_refusal error)
unread l T (errors.Fault found) given after (inl h) = inl (h.0.2.answers, h.1.0, h.1.1)
unread l T (errors.Fault found) given after (inr f) = inr (record {
  value = f.value;
  octets = f.octets;
  rest = f.behind ++ after;
  spells = f.spells;
  is = f.takes ∙ append_assoc f.octets f.behind after;
  more = omega (arith, f.ends_badly.0, length-append f.behind after);
  fault_is = f.ends_badly.1;
})
unread l T (errors.Read at) given after h = tt
unread l T errors.Memory given after h = tt

pub unread_made : (l : Limits) (T : TypeTerm) (error : ReadError) (refusal : Refusal) (given rest : List ℕ)
    → refusal ≡ unread_refusal error
    → Unchecked l T error (Some given) (Some rest) ⊎ Followed l T error (Some given) (Some rest)
    → WholeRefused l T given refusal
unread_made l T error refusal given rest is h = subst (WholeRefused l T given) (sym is) (unread l T error given rest h)

-- so whatever the source tells after it
pub found_whole : (l : Limits) (T : TypeTerm) (found : Fault) (given : List ℕ) (after : Option (List ℕ))
    → Unchecked l T (errors.Fault found) (Some given) after ⊎ Followed l T (errors.Fault found) (Some given) after
    → WholeFault l T found given
found_whole l T found given None (inl u) = absurd u.0
found_whole l T found given None (inr f) = absurd f.takes
found_whole l T found given (Some rest) h = unread l T (errors.Fault found) given rest h

found_is : {E : Type 0} (answer : Result E Fault) (fault found : Fault) → answer ≡ Err fault → answer ≡ Err found
    → fault ≡ found
found_is answer fault found is is' = cc

-- so of an encoding that there isn't
pub refused_whole : {E : Type 0} (l : Limits) (T : TypeTerm) (given : List ℕ) (answer : Result E Fault) (found : Fault)
    (Encoded : E → Type 0)
    → answer ≡ Err found
    → MatchResult answer Encoded
    (λ fault. (after : Option (List ℕ))
    × (Unchecked l T (errors.Fault fault) (Some given) after ⊎ Followed l T (errors.Fault fault) (Some given) after))
    → WholeFault l T found given
refused_whole l T given (Ok encoding) found Encoded is h = absurd cc
refused_whole l T given (Err fault) found Encoded is h =
    subst (λ z. WholeFault l T z given) (found_is (Err fault) fault found refl is) (found_whole l T fault given h.0 h.1)

not_received : (l : Limits) (error : ReadError) (given : List ℕ) → NotReceived l given error
    → WholeRefused l (type_of Request) given (unread_refusal error)
not_received l (errors.Fault found) given h = found_whole l (type_of Request) found given h.0 h.1
not_received l (errors.Read at) given h = absurd h
not_received l errors.Memory given h = tt

pub not_received_made : (l : Limits) (error : ReadError) (refusal : Refusal) (given : List ℕ)
    → refusal ≡ unread_refusal error → NotReceived l given error → WholeRefused l (type_of Request) given refusal
not_received_made l error refusal given is h =
    subst (WholeRefused l (type_of Request) given) (sym is) (not_received l error given h)
