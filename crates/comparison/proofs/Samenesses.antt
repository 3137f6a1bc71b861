-- What two documents are to each other, by how each was read.
use Rattle.std.proofs.Common.{Bool, Err, IfOk, List, Ok, Option, Result, ap, false, is_some, refl, subst, sym, true, ℕ, ◌||◌, ◌∙◌, ◌≡◌}
use Rattle.tlv_core.specs.Limits.{Limits}
use Rattle.tlv_core.specs.declared.fault.Fault.{Fault}
use Rattle.x690.specs.DerTexts.{der}
use Rattle.x690.specs.TypeTerms.{TypeTerm}
use Rattle.pk_documents.specs.KindRows.{word_of}
use Rattle.pk_documents.specs.Kinds.{type_of}
use Rattle.pk_documents.specs.declared.kind.Kind.{Kind}
use Rattle.explain.specs.Written.{version}
use Rattle.comparison.specs.Sameness.{AreApart, AreRefused, AreSame, IsAccepted, IsJudged, IsReading, encoding_of, fault_of}
use Rattle.comparison.specs.Written.{IsCompared, IsWritten, refused_written}
use Rattle.comparison.specs.declared.reading.DocumentReading.{DocumentReading}
use Rattle.comparison.specs.declared.reading.DocumentReading.TheVariants.{Accepted, Refused as RefusedReading}
use Rattle.comparison.specs.declared.same.Style.{Style}
use Rattle.comparison.specs.declared.sameness.Sameness.{Sameness}
use Rattle.comparison.specs.declared.sameness.Sameness.TheVariants.{Another, Refused, Same}

are_same : (l : Limits) (T : TypeTerm) (first second one other : List ℕ) → IsAccepted l T first one
    → IsAccepted l T second other → one ≡ other → AreSame l T first second
are_same l T first second one other a b e =
    let d : der a.value ≡ der b.value = sym a.encoded ∙ e ∙ b.encoded in
    record {
      value = a.value;
      other = b.value;
      spells = a.spells;
      other_spells = b.spells;
      same = (b.same l a.value first a.spells).0 d;
      encodings = d;
    }

are_apart : (l : Limits) (T : TypeTerm) (first second one other : List ℕ) → IsAccepted l T first one
    → IsAccepted l T second other → (one ≡ other → ⊥) → AreApart l T first second
are_apart l T first second one other a b ne =
    record {
      value = a.value;
      other = b.value;
      spells = a.spells;
      other_spells = b.spells;
      apart = λ s. ne (a.encoded ∙ (b.same l a.value first a.spells).1 s ∙ sym b.encoded);
      encodings = λ d. ne (a.encoded ∙ d ∙ sym b.encoded);
    }

pub neither : (a b : Bool) → (a || b) ≡ false → (a ≡ false) × (b ≡ false)
neither true b e = absurd cc
neither false b e = (refl, e)

-- what was read, by its fault
pub judged : (l : Limits) (T : TypeTerm) (octets : List ℕ) (reading : DocumentReading) → IsReading l T octets reading
    → IsJudged l T octets (fault_of reading)
judged l T octets (Accepted encoding) a = (a.value, a.spells)
judged l T octets (RefusedReading fault) r = r

pub accepted : (l : Limits) (T : TypeTerm) (octets : List ℕ) (reading : DocumentReading) → IsReading l T octets reading
    → is_some (fault_of reading) ≡ false → IsAccepted l T octets (encoding_of reading)
accepted l T octets (Accepted encoding) a none = a
accepted l T octets (RefusedReading fault) r none = absurd cc

-- of two documents that are accepted
pub compared_written : (form : Style) (l : Limits) (kind : Kind) (name other_name first second one other text : List ℕ)
    (sameness : Sameness) → IsAccepted l (type_of kind) first one → IsAccepted l (type_of kind) second other
    → IsCompared form l kind version (word_of kind) name other_name one other text sameness
    → IsWritten form l kind name other_name first second text sameness
compared_written form l kind name other_name first second one other text Same a b c =
    (are_same l (type_of kind) first second one other a b c.0, c.1)
compared_written form l kind name other_name first second one other text Another a b c =
    (are_apart l (type_of kind) first second one other a b c.0, (one, other, a, b, c.1))
compared_written form l kind name other_name first second one other text (Refused fault fault') a b c = absurd c

written_as : (form : Style) (l : Limits) (kind : Kind) (name other_name first second text : List ℕ)
    (fault other : Option Fault) → AreRefused l (type_of kind) first second fault other
    → text ≡ refused_written form version (word_of kind) name other_name fault other
    → IsWritten form l kind name other_name first second text (Refused fault other)
written_as form l kind name other_name first second text fault other r e = (r, e)

-- of two of which one is refused, or both
pub refused_both_written : (form : Style) (l : Limits) (kind : Kind)
    (name other_name first second text : List ℕ) (fault other : Option Fault) (sameness : Sameness)
    → AreRefused l (type_of kind) first second fault other
    → text ≡ refused_written form version (word_of kind) name other_name fault other
    → sameness ≡ Refused fault other → IsWritten form l kind name other_name first second text sameness
refused_both_written form l kind name other_name first second text fault other sameness r e is =
    subst (IsWritten form l kind name other_name first second text) (sym is)
    (written_as form l kind name other_name first second text fault other r e)

-- the same by what was handed on
pub compared_said : (form : Style) (l : Limits) (kind : Kind)
    (name other_name first second one other program word text : List ℕ) (sameness : Sameness)
    → program ≡ version → word ≡ word_of kind
    → IsAccepted l (type_of kind) first one → IsAccepted l (type_of kind) second other
    → IsCompared form l kind program word name other_name one other text sameness
    → IsWritten form l kind name other_name first second text sameness
compared_said form l kind name other_name first second one other program word text sameness p w a b c =
    compared_written form l kind name other_name first second one other text sameness a b
    (subst (λ z. IsCompared form l kind version z name other_name one other text sameness) w
    (subst (λ z. IsCompared form l kind z word name other_name one other text sameness) p c))

pub refused_said : (form : Style) (l : Limits) (kind : Kind)
    (name other_name first second program word text : List ℕ) (fault other : Option Fault) (sameness : Sameness)
    → program ≡ version → word ≡ word_of kind → AreRefused l (type_of kind) first second fault other
    → text ≡ refused_written form program word name other_name fault other
    → sameness ≡ Refused fault other → IsWritten form l kind name other_name first second text sameness
refused_said form l kind name other_name first second program word text fault other sameness p w r e is =
    refused_both_written form l kind name other_name first second text fault other sameness r
    (e
    ∙ ap (λ z. refused_written form z word name other_name fault other) p
    ∙ ap (λ z. refused_written form version z name other_name fault other) w) is

-- ---- the same of what a call answers

pub compared_result : {W E : Type 0} (text_of : W → List ℕ) (answer_of : W → Sameness) (result : Result W E)
    (form : Style) (l : Limits) (kind : Kind) (name other_name first second one other program word : List ℕ)
    → program ≡ version → word ≡ word_of kind
    → IsAccepted l (type_of kind) first one → IsAccepted l (type_of kind) second other
    → IfOk result
    (λ it. IsCompared form l kind program word name other_name one other (text_of it) (answer_of it))
    → IfOk result (λ it. IsWritten form l kind name other_name first second (text_of it) (answer_of it))
compared_result text_of answer_of (Ok it) form l kind name other_name first second one other program word p w a b c =
    compared_said form l kind name other_name first second one other program word (text_of it) (answer_of it) p w a b c
compared_result text_of answer_of
    (Err error) form l kind name other_name first second one other program word p w a b c =
    tt

pub refused_result : {W E : Type 0} (text_of : W → List ℕ) (answer_of : W → Sameness) (result : Result W E)
    (form : Style) (l : Limits) (kind : Kind) (name other_name first second program word : List ℕ)
    (fault other : Option Fault)
    → program ≡ version → word ≡ word_of kind → AreRefused l (type_of kind) first second fault other
    → IfOk result (λ it. text_of it ≡ refused_written form program word name other_name fault other)
    → IfOk result (λ it. answer_of it ≡ Refused fault other)
    → IfOk result (λ it. IsWritten form l kind name other_name first second (text_of it) (answer_of it))
refused_result text_of answer_of (Ok it) form l kind name other_name first second program word fault other p w r e is =
    refused_said form l kind name other_name first second program word (text_of it) fault other
    (answer_of it) p w r e is
refused_result text_of answer_of
    (Err error) form l kind name other_name first second program word fault other p w r e is =
    tt
