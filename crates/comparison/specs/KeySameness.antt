-- What the private keys of two documents are to each other, and how it is written.
use Rattle.std.specs.Prelude.{List, None, Option, Some, codes, is_some, true, ℕ, ◌++◌, ◌||◌, ◌≡◌}
use Rattle.std.specs.Io.KnownBytes.{IsAtEnd}
use Rattle.tlv_core.specs.Limits.{Limits}
use Rattle.tlv_core.specs.declared.fault.Fault.{Fault}
use Rattle.x690.specs.Values.{Value}
use Rattle.asn_documents.specs.ReadValues.{ReadsValue}
use Rattle.pk_documents.specs.Documents.{kind_of}
use Rattle.pk_documents.specs.Kinds.{type_of}
use Rattle.pk_documents.specs.declared.document.Document.{Document}
use Rattle.pk_documents.specs.declared.kind.Kind.{Kind}
use Rattle.explain.specs.Answers.{IsRefused}
use Rattle.reports.specs.Texts.{line_feed}
use Rattle.comparison.specs.Texts.{refused_text}
use Rattle.comparison.specs.Parts.{document_parts}
use Rattle.comparison.specs.Verdicts.{reason_of_both, verdict_of}
use Rattle.comparison.specs.declared.same_key.KeyReading.{KeyReading}
use Rattle.comparison.specs.declared.same_key.KeyReading.TheVariants.{Accepted, Refused as RefusedReading}
use Rattle.comparison.specs.declared.verdict.KeySameness.{KeySameness}
use Rattle.comparison.specs.declared.verdict.KeySameness.TheVariants.{Another, NotCompared, Refused, Same}

-- All of the octets are read as this document of the kind.
abbrev pub IsKey : (Document → Value) → Limits → Kind → List ℕ → Document → Type 0
IsKey value_of limits kind octets document =
    (after : Option (List ℕ)) × (taken : ℕ)
    × ReadsValue limits (type_of kind) (value_of document) (Some octets) after taken
    × IsAtEnd after × (kind_of document ≡ kind)

abbrev pub IsKeyReading : (Document → Value) → Limits → Kind → List ℕ → KeyReading → Type 0
IsKeyReading value_of limits kind octets (Accepted document) = IsKey value_of limits kind octets document
IsKeyReading value_of limits kind octets (RefusedReading fault) = IsRefused limits (type_of kind) octets fault

-- why octets that were read are refused, if they are
abbrev pub fault_of : KeyReading → Option Fault
fault_of (Accepted document) = None
fault_of (RefusedReading fault) = Some fault

-- how the answer for two documents that are accepted is written
abbrev pub key_line : Document → Document → KeySameness → List ℕ
key_line document other Same = codes "the same key" ++ line_feed
key_line document other Another = codes "another key" ++ line_feed
key_line document other NotCompared =
    codes "not compared: " ++ reason_of_both (document_parts document) (document_parts other) ++ line_feed
key_line document other (Refused fault fault') = line_feed

-- Both are documents, and the answer is what their parts say.
pub record AreCompared (value_of : Document → Value) (limits : Limits) (kind other_kind : Kind) (first second : List ℕ)
    (text : List ℕ) (answer : KeySameness) : Type 0 where
  pub document : Document
  pub other : Document
  pub is : IsKey value_of limits kind first document
  pub other_is : IsKey value_of limits other_kind second other
  pub answered : answer ≡ verdict_of (document_parts document) (document_parts other)
  pub line : text ≡ key_line document other answer

abbrev pub IsJudgedKey : (Document → Value) → Limits → Kind → List ℕ → Option Fault → Type 0
IsJudgedKey value_of limits kind octets None = (document : Document) × IsKey value_of limits kind octets document
IsJudgedKey value_of limits kind octets (Some fault) = IsRefused limits (type_of kind) octets fault

-- One of them is refused, or both.
pub record AreRefusedKeys (value_of : Document → Value) (limits : Limits) (kind other_kind : Kind)
    (name other_name first second text : List ℕ) (answer : KeySameness) : Type 0 where
  pub fault : Option Fault
  pub other : Option Fault
  pub answered : answer ≡ Refused fault other
  pub judged : IsJudgedKey value_of limits kind first fault
  pub other_judged : IsJudgedKey value_of limits other_kind second other
  pub some : (is_some fault || is_some other) ≡ true
  pub lines : text ≡ refused_text name other_name fault other
