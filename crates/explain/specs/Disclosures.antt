-- What a report may show of a document: all that one is made of.
use Rattle.std.specs.Prelude.{Bool, List, None, Option, Some, [], cond, false, length, nat_le, not, take, true, ℕ, ◌++◌, ◌&&◌, ◌∷◌, ◌≡◌}
use Rattle.std.specs.Borrow.{Bor}
use Rattle.asn_names.specs.declared.element.NamedElement.{NamedElement}
use Rattle.asn_names.specs.declared.element.Mismatch.{Mismatch}
use Rattle.asn_names.specs.declared.element.Step.{Step}
use Rattle.asn_names.specs.declared.element.Step.TheVariants.{Field, Member, Outermost, Outside, Segment}
use Rattle.pkix_shapes.specs.declared.shape.Shape.{Shape}
use Rattle.tlv_core.specs.Limits.{Limits}
use Rattle.tlv_core.specs.declared.fault.Fault.{Fault}
use Rattle.tlv_core.specs.declared.reason.Reason.{Reason}
use Rattle.tlv_core.specs.declared.reason.Reason.TheVariants as reasons
use Rattle.pk_documents.specs.Kinds.{type_of}
use Rattle.pk_documents.specs.declared.kind.Kind.{Kind}
use Rattle.explain.specs.Afters.{IsAfter}
use Rattle.explain.specs.Answers.{IsAnswer}
use Rattle.explain.specs.Classes.{class_at}
use Rattle.explain.specs.FaultLines.{is_between}
use Rattle.explain.specs.Fronts.{front_size}
use Rattle.explain.specs.Insides.{HasInsides, IsNamed, inside_at, search_alone}
use Rattle.explain.specs.Guesses.{IsGuess}
use Rattle.explain.specs.Shapes.{IsShapeOf}
use Rattle.explain.specs.FaultLocations.{IsPath, IsPathTo, location_at}
use Rattle.explain.specs.declared.disclosed.Disclosed.{Disclosed}
use Rattle.explain.specs.declared.document.inside.Inside.{Inside}
use Rattle.reports.specs.declared.report.Answer.{Answer}
use Rattle.reports.specs.declared.report.Answer.TheVariants.{Der, NotDer, Refused}

-- the reason alone says which field is refused
abbrev pub says_field : Reason → Bool
says_field reasons.VersionRule = true
says_field reasons.KeyLength = true
says_field _ = false

abbrev pub is_near_by : Fault → ℕ → Option (ℕ × Reason) → Bool
is_near_by fault front None = nat_le fault.at front && not (says_field fault.why)
is_near_by fault front (Some inside) = false

-- A fault is in the file, and no more octets come before it than these.
abbrev pub is_near : Fault → ℕ → Bool
is_near fault front = is_near_by fault front fault.inside

-- The steps to what is refused: of a fault inside an OCTET STRING those to that, and from there on.
abbrev pub IsInnerPath : List NamedElement → Inside → ℕ → Reason → List Step → Type 0
IsInnerPath elements inside at why steps =
    (outer : List Step) × (inner : List Step) × IsPath elements inside.container outer
    × IsPathTo inside.named.elements.items (location_at inside.named.elements.items inside.named.mismatch at why) inner
    × (steps ≡ outer ++ inner)

abbrev pub IsFaultPathIn : List NamedElement → Mismatch → Fault → Option (ℕ × Reason) → Option Inside → List Step
    → Type 0
IsFaultPathIn elements mismatch fault None inside steps =
    IsPathTo elements (location_at elements mismatch fault.at fault.why) steps
IsFaultPathIn elements mismatch fault (Some inner) None steps =
    IsPathTo elements (location_at elements mismatch fault.at fault.why) steps
IsFaultPathIn elements mismatch fault (Some inner) (Some inside) steps =
    IsInnerPath elements inside inner.0 inner.1 steps

abbrev pub IsFaultPath : List NamedElement → Mismatch → List Inside → Fault → List Step → Type 0
IsFaultPath elements mismatch insides fault steps =
    IsFaultPathIn elements mismatch fault fault.inside (inside_at elements insides fault.at) steps

-- the steps added to those before
abbrev pub AddsInnerPath : List NamedElement → Inside → ℕ → Reason → List Step → List Step → Type 0
AddsInnerPath elements inside at why old new =
    (steps : List Step) × (new ≡ old ++ steps) × IsInnerPath elements inside at why steps

abbrev pub AddsFaultPath : List NamedElement → Mismatch → List Inside → Fault → List Step → List Step → Type 0
AddsFaultPath elements mismatch insides fault old new =
    (steps : List Step) × (new ≡ old ++ steps) × IsFaultPath elements mismatch insides fault steps

-- the steps among these that are names of fields
abbrev pub is_name : Step → Bool
is_name Outermost = false
is_name Outside = false
is_name (Field name) = true
is_name (Member number) = false
is_name (Segment number) = false

abbrev pub names_in : List Step → List Step
names_in [] = []
names_in (step ∷ steps) = cond (is_name step) (step ∷ names_in steps) (names_in steps)

-- The steps to what is refused; the names of fields alone, where more octets come before it than the front has.
abbrev pub IsDisclosedPath : List NamedElement → Mismatch → List Inside → Fault → ℕ → List Step → Type 0
IsDisclosedPath elements mismatch insides fault front path =
    (steps : List Step) × IsFaultPath elements mismatch insides fault steps
    × (path ≡ cond (is_near fault front) steps (names_in steps))

-- the class of what is at a fault in the file
abbrev pub class_by : List ℕ → Fault → Option (ℕ × Reason) → Option ℕ
class_by document fault None = cond (is_between fault.why) None (class_at document fault.at)
class_by document fault (Some inside) = None

abbrev pub disclosed_class : List ℕ → Fault → Option ℕ
disclosed_class document fault = class_by document fault fault.inside

-- Of a document that is refused: its front, the steps to what is refused, and of what class that is.
pub record IsRefused (limits : Limits) (of : Kind) (document : List ℕ) (fault : Fault) (front : List ℕ)
    (path : List Step)
    (class : Option ℕ) : Type 0 where
  pub root : Bor Shape
  pub is_shape : IsShapeOf of root
  pub elements : List NamedElement
  pub mismatch : Mismatch
  pub is_named : IsNamed limits document root (elements, mismatch)
  pub insides : List Inside
  pub has_insides : HasInsides (search_alone limits) document elements (length elements) insides
  pub front_is : front ≡ take (front_size document elements mismatch fault.at) document
  pub path_is : IsDisclosedPath elements mismatch insides fault (length front) path
  pub class_is : class ≡ disclosed_class document fault

abbrev pub IsShown : Limits → Kind → List ℕ → Answer → List ℕ → List Step → Option ℕ → Type 0
IsShown limits of document Der front path class = (front ≡ document) × (path ≡ []) × (class ≡ None)
IsShown limits of document (NotDer place) front path class = (front ≡ document) × (path ≡ []) × (class ≡ None)
IsShown limits of document (Refused fault) front path class = IsRefused limits of document fault front path class

-- What may be shown: how many octets the file has, what `check` answers, the front, the steps to what is refused and
-- its class, what else the file looks like, and what the octets after the document are.
pub record IsDisclosed (limits : Limits) (of : Kind) (document : List ℕ) (disclosed : Disclosed) : Type 0 where
  pub octets : disclosed.octets ≡ length document
  pub answer : IsAnswer limits (type_of of) document disclosed.answer
  pub shown : IsShown limits of document disclosed.answer disclosed.front.now disclosed.path.items disclosed.class
  pub guess : IsGuess limits of document disclosed.answer disclosed.guess
  pub after : IsAfter limits of document disclosed.answer disclosed.after
