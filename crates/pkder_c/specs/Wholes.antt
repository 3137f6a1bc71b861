-- What is said of octets that have to be one document, all of them.
use Rattle.std.specs.Prelude.{◌≡◌, ◌↔◌, ◌≤◌, ◌⊎◌, ℕ, Bool, IsTrue, List, [], ◌++◌, Option, Some, length}
use Rattle.tlv_core.specs.Faults.{InsideMatches}
use Rattle.tlv_core.specs.Limits.{Limits}
use Rattle.tlv_core.specs.declared.fault.Fault.{Fault}
use Rattle.tlv_core.specs.declared.reason.Reason.TheVariants.{Trailing}
use Rattle.x690.specs.Answers.{Refused, answer}
use Rattle.x690.specs.DerTexts.{der}
use Rattle.x690.specs.Fitting.{Spells}
use Rattle.x690.specs.Points.{fault}
use Rattle.x690.specs.TypeTerms.{TypeTerm}
use Rattle.x690.specs.Values.{Same, Value}
use Rattle.asn_documents.specs.Checked.{CheckedAs}
use Rattle.asn_documents.specs.Normalised.{Took, Unspelled}
use Rattle.asn_documents.specs.ReadValues.{ReadsValue}
use Rattle.pk_documents.specs.Documents.{kind_of}
use Rattle.pk_documents.specs.Kinds.{type_of}
use Rattle.pk_documents.specs.RequestParts.{part_of}
use Rattle.pk_documents.specs.declared.document.Document.{Document}
use Rattle.pk_documents.specs.declared.kind.Kind.{Kind}
use Rattle.pk_documents.specs.declared.kind.Kind.TheVariants.{Request}
use Rattle.pk_documents.specs.declared.request_part.Part.{Part}
use Rattle.pk_show.specs.Shown.{document_lines}
use Rattle.explain.specs.Received.{Received}
use Rattle.explain.specs.declared.received.RequestPart.{RequestPart}
use Rattle.explain.specs.declared.received.RequestPart.TheVariants.{Received as AsReceived, Written}
use Rattle.pkder_c.specs.declared.refusal.PairRefusal.{PairRefusal}
use Rattle.pkder_c.specs.declared.refusal.PairRefusal.TheVariants as pairs
use Rattle.pkder_c.specs.declared.refusal.Refusal.{Refusal}
use Rattle.pkder_c.specs.declared.refusal.Refusal.TheVariants as refusals

-- All of the octets spell one value, and this is the first place where they differ from its DER text, if they do.
abbrev pub WholeChecked : Limits → TypeTerm → List ℕ → Option ℕ → Type 0
WholeChecked limits type given place =
    (value : Value) × CheckedAs limits type value (Some given) (Some []) (length given) place

-- They are read as a document of the kind, and the text is its lines.
abbrev pub WholeLines : (Document → Value) → Limits → Kind → List ℕ → List ℕ → Type 0
WholeLines value_of limits kind given text =
    (document : Document)
    × (kind_of document ≡ kind)
    × ReadsValue limits (type_of kind) (value_of document) (Some given) (Some []) (length given)
    × (text ≡ document_lines document)

-- They spell one request, and the text is a part of what it says.
abbrev pub WholeWritten : Limits → Part → List ℕ → List ℕ → Type 0
WholeWritten limits part given text =
    (value : Value)
    × Took limits (type_of Request) value (Some given) (Some []) (length given)
    × (text ≡ part_of part value)

-- They spell one request, and the text is a part of it, written of what it says or as it came.
abbrev pub WholePart : Limits → RequestPart → List ℕ → List ℕ → Type 0
WholePart limits (Written part) given text = WholeWritten limits part given text
WholePart limits AsReceived given text = Received limits given text

-- They spell one value.
abbrev pub IsWhole : Limits → TypeTerm → List ℕ → Type 0
IsWhole limits type given = (value : Value) × Took limits type value (Some given) (Some []) (length given)

-- Each of the two spells one value, and this says whether these are the same, which is whether their DER texts are
-- equal.
pub record WholeSame (limits : Limits) (type : TypeTerm) (first second : List ℕ) (same : Bool) : Type 0 where
  pub value : Value
  pub other : Value
  pub took : Took limits type value (Some first) (Some []) (length first)
  pub took_other : Took limits type other (Some second) (Some []) (length second)
  pub values : IsTrue same ↔ Same value other
  pub texts : IsTrue same ↔ (der value ≡ der other)

-- Nothing that the octets begin with spells a value, and this is the fault that the definitions give.
abbrev pub FirstFault : Limits → TypeTerm → Fault → List ℕ → Type 0
FirstFault limits type found given =
    (answer limits type given ≡ Refused found) × InsideMatches found × Unspelled limits type given

-- Octets follow the first ones, which spell a value: a fault after these.
pub record FollowsValue (limits : Limits) (type : TypeTerm) (found : Fault) (given : List ℕ) : Type 0 where
  pub value : Value
  pub octets : List ℕ
  pub rest : List ℕ
  pub spells : Spells limits type value octets
  pub is : given ≡ octets ++ rest
  pub more : 1 ≤ length rest
  pub fault_is : found ≡ fault (length octets) Trailing

abbrev pub WholeFault : Limits → TypeTerm → Fault → List ℕ → Type 0
WholeFault limits type found given = FirstFault limits type found given ⊎ FollowsValue limits type found given

-- Why there is no document that is all of the octets. Want of memory says nothing.
abbrev pub WholeRefused : Limits → TypeTerm → List ℕ → Refusal → Type 0
WholeRefused limits type given refusals.Call = ⊥
WholeRefused limits type given (refusals.Fault found) = WholeFault limits type found given
WholeRefused limits type given refusals.Memory = Unit {0}

-- Why two are not compared: the first one is refused, or it spells a value and the second one is refused. One that is
-- refused is the same as no other, whatever that is.
abbrev pub WholePairRefused : Limits → TypeTerm → List ℕ → List ℕ → PairRefusal → Type 0
WholePairRefused limits type first second pairs.Call = ⊥
WholePairRefused limits type first second (pairs.First found) = WholeFault limits type found first
WholePairRefused limits type first second (pairs.Second found) =
    IsWhole limits type first × WholeFault limits type found second
WholePairRefused limits type first second pairs.Memory = Unit {0}
