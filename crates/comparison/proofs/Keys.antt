-- What the private keys of two documents are to each other, by how each was read.
use Rattle.std.proofs.Common.{Err, IfOk, List, Ok, Option, Result, inl, inr, is_some, true, ℕ, ◌||◌, ◌≡◌, ◌⊎◌}
use Rattle.tlv_core.specs.Limits.{Limits}
use Rattle.tlv_core.specs.declared.fault.Fault.{Fault}
use Rattle.x690.specs.Values.{Value}
use Rattle.pk_documents.specs.declared.document.Document.{Document}
use Rattle.pk_documents.specs.declared.kind.Kind.{Kind}
use Rattle.comparison.specs.Texts.{refused_text}
use Rattle.comparison.specs.KeySameness.{AreCompared, AreRefusedKeys, IsJudgedKey, IsKey, IsKeyReading, fault_of, key_line}
use Rattle.comparison.specs.Parts.{document_parts}
use Rattle.comparison.specs.Verdicts.{verdict_of}
use Rattle.comparison.specs.declared.same_key.KeyReading.{KeyReading}
use Rattle.comparison.specs.declared.same_key.KeyReading.TheVariants.{Accepted, Refused as RefusedReading}
use Rattle.comparison.specs.declared.verdict.KeySameness.{KeySameness}
use Rattle.comparison.specs.declared.verdict.KeySameness.TheVariants.{Refused}

-- what was read, by its fault
pub judged : (value_of : Document → Value) (l : Limits) (kind : Kind) (octets : List ℕ) (reading : KeyReading)
    → IsKeyReading value_of l kind octets reading → IsJudgedKey value_of l kind octets (fault_of reading)
judged value_of l kind octets (Accepted document) k = (document, k)
judged value_of l kind octets (RefusedReading fault) r = r

-- of two documents that are accepted
pub compared_result : {W E : Type 0} (text_of : W → List ℕ) (answer_of : W → KeySameness) (result : Result W E)
    (value_of : Document → Value) (l : Limits) (kind other_kind : Kind)
    (name other_name first second : List ℕ) (document other : Document)
    → IsKey value_of l kind first document → IsKey value_of l other_kind second other
    → IfOk result (λ it. answer_of it ≡ verdict_of (document_parts document) (document_parts other))
    → IfOk result (λ it. text_of it ≡ key_line document other (answer_of it))
    → IfOk result
    (λ it.
    AreCompared value_of l kind other_kind first second (text_of it) (answer_of it)
    ⊎ AreRefusedKeys value_of l kind other_kind name other_name first second (text_of it) (answer_of it))
compared_result text_of answer_of
    (Ok it) value_of l kind other_kind name other_name first second document other a b e t =
    inl (record { document = document; other = other; is = a; other_is = b; answered = e; line = t })
compared_result text_of answer_of (Err error) value_of l kind other_kind name other_name first second document other a b
    e t = tt

-- of two of which one is refused
pub refused_result : {W E : Type 0} (text_of : W → List ℕ) (answer_of : W → KeySameness) (result : Result W E)
    (value_of : Document → Value) (l : Limits) (kind other_kind : Kind)
    (name other_name first second : List ℕ) (fault other : Option Fault) → IsJudgedKey value_of l kind first fault
    → IsJudgedKey value_of l other_kind second other → (is_some fault || is_some other) ≡ true
    → IfOk result (λ it. text_of it ≡ refused_text name other_name fault other)
    → IfOk result (λ it. answer_of it ≡ Refused fault other)
    → IfOk result
    (λ it.
    AreCompared value_of l kind other_kind first second (text_of it) (answer_of it)
    ⊎ AreRefusedKeys value_of l kind other_kind name other_name first second (text_of it) (answer_of it))
refused_result text_of answer_of (Ok it) value_of l kind other_kind name other_name first second fault other
    a b s t e =
    inr
    (record {
      fault = fault;
      other = other;
      answered = e;
      judged = a;
      other_judged = b;
      some = s;
      lines = t;
    })
refused_result text_of answer_of (Err error) value_of l kind other_kind name other_name first second fault other
    a b s t e = tt
