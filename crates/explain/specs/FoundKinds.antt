-- Of which kind octets are a document, and of which one they likely are where they are of none.
use Rattle.std.specs.Prelude.{Bool, List, None, Option, Some, not, ℕ, ◌≡◌}
use Rattle.tlv_core.specs.Limits.{Limits}
use Rattle.tlv_core.specs.declared.fault.Fault.{Fault}
use Rattle.pk_documents.specs.KindRows.{kinds}
use Rattle.pk_documents.specs.Kinds.{type_of}
use Rattle.pk_documents.specs.declared.kind.Kind.{Kind}
use Rattle.explain.specs.Answers.{IsAnswer}
use Rattle.explain.specs.Guesses.{FirstBy}
use Rattle.explain.specs.Rules.{is_refusal}
use Rattle.explain.specs.Wordings.{IsBegun}
use Rattle.reports.specs.declared.report.Answer.{Answer}
use Rattle.reports.specs.declared.report.Answer.TheVariants.{Der, NotDer, Refused}

-- Checking octets as a document of the kind accepts them, or refuses them.
pub record Accepts (limits : Limits) (octets : List ℕ) (kind : Kind) (is : Bool) : Type 0 where
  pub answer : Answer
  pub is_answer : IsAnswer limits (type_of kind) octets answer
  pub accepted : is ≡ not (is_refusal answer)

-- It is the kind of which octets are a document. No two kinds accept the same octets.
abbrev pub IsKindOf : Limits → List ℕ → Option Kind → Type 0
IsKindOf limits octets found = FirstBy (Accepts limits octets) kinds found

-- the kind and the fault of what is refused
abbrev pub fault_as : Kind → Answer → Option (Kind × Fault)
fault_as kind Der = None
fault_as kind (NotDer place) = None
fault_as kind (Refused fault) = Some (kind, fault)

abbrev pub IsFaultAs : Limits → List ℕ → Option Kind → Option (Kind × Fault) → Type 0
IsFaultAs limits octets None likely = likely ≡ None
IsFaultAs limits octets (Some kind) likely =
    (answer : Answer) × IsAnswer limits (type_of kind) octets answer × (likely ≡ fault_as kind answer)

-- It is the kind that their first elements name, and the fault that they have as its document.
abbrev pub IsLikely : Limits → List ℕ → Option (Kind × Fault) → Type 0
IsLikely limits octets likely =
    (begun : Option Kind) × IsBegun limits octets begun × IsFaultAs limits octets begun likely
