-- What is said of kinds and limits, said of their numbers; and what is put and shown of it.
use Rattle.std.proofs.Common.{◌≡◌, Bool, Err, IfErr, IfOk, List, Ok, Option, Result, inl, inr, subst, sym, ℕ}
use Rattle.tlv_core.specs.Limits.{IsLimits, Limits}
use Rattle.x690.specs.Values.{Value}
use Rattle.pk_documents.specs.Encodings.{IsEncoding}
use Rattle.pk_documents.specs.KindRows.{number_of as kind_number}
use Rattle.pk_documents.specs.Kinds.{type_of}
use Rattle.pk_documents.specs.declared.document.Document.{Document}
use Rattle.pk_documents.specs.declared.kind.Kind.{Kind}
use Rattle.pk_documents.specs.declared.kind.Kind.TheVariants.{Request}
use Rattle.explain.specs.Written.{IsFieldOf, IsWritten}
use Rattle.explain.specs.declared.received.RequestPart.{RequestPart}
use Rattle.explain.specs.declared.written.Form.{Form}
use Rattle.reports.specs.declared.report.Answer.{Answer}
use Rattle.pkder_c.specs.Calls.{AreLines, Checked, Compared, FieldRefused, IsField, IsPartText, IsPlace, IsReport, IsSame, IsText, KindRefused, PairRefused, PartRefused, Put, PutReport, ReportRefused, Reported, Wrote}
use Rattle.pkder_c.specs.Numbers.{IsFormNumber, IsFormOf, part_number}
use Rattle.pkder_c.specs.Outcomes.{checked_outcome, compared_outcome, refused_outcome, uncompared_outcome}
use Rattle.pkder_c.specs.Wholes.{IsWhole, WholeChecked, WholeFault, WholeLines, WholePairRefused, WholePart, WholeRefused, WholeSame}
use Rattle.pkder_c.specs.declared.outcome.PkderOutcome.{PkderOutcome}
use Rattle.pkder_c.specs.declared.refusal.PairRefusal.{PairRefusal}
use Rattle.pkder_c.specs.declared.refusal.PairRefusal.TheVariants as pairs
use Rattle.pkder_c.specs.declared.refusal.Refusal.{Refusal}
use Rattle.pkder_c.specs.declared.refusal.Refusal.TheVariants as refusals
use Rattle.pkder_c.proofs.Wholes.{text_room}

-- `made` are the limits that were made of the numbers, `limits` these numbers

pub text_for : {V : Type 0} (r : Result V Refusal) (items : V → List ℕ) (number : ℕ) (kind : Kind)
    (made limits : Limits) (given : List ℕ)
    → kind_number kind ≡ number → made ≡ limits → IsLimits limits
    → IfOk r (λ v. IsEncoding made (type_of kind) given (items v)) → IfOk r (λ v. IsText number limits given (items v))
text_for (Ok v) items number kind made limits given k e fine h =
    let whole : IsEncoding limits (type_of kind) given (items v) =
    subst (λ z. IsEncoding z (type_of kind) given (items v)) e h in
    (kind, k, fine, (whole, text_room limits (type_of kind) given (items v) fine whole))
text_for (Err refusal) items number kind made limits given k e fine h = tt

pub place_for : (r : Result (Option ℕ) Refusal) (number : ℕ) (kind : Kind) (made limits : Limits) (given : List ℕ)
    → kind_number kind ≡ number → made ≡ limits → IsLimits limits
    → IfOk r (WholeChecked made (type_of kind) given) → IfOk r (IsPlace number limits given)
place_for (Ok place) number kind made limits given k e fine h =
    (kind, k, fine, subst (λ z. WholeChecked z (type_of kind) given place) e h)
place_for (Err refusal) number kind made limits given k e fine h = tt

pub same_for : (r : Result Bool PairRefusal) (number : ℕ) (kind : Kind) (made limits : Limits) (first second : List ℕ)
    → kind_number kind ≡ number → made ≡ limits → IsLimits limits
    → IfOk r (WholeSame made (type_of kind) first second) → IfOk r (IsSame number limits first second)
same_for (Ok same) number kind made limits first second k e fine h =
    (kind, k, fine, subst (λ z. WholeSame z (type_of kind) first second same) e h)
same_for (Err refusal) number kind made limits first second k e fine h = tt

pub pair_refused : (r : Result Bool PairRefusal) (number : ℕ) (kind : Kind) (made limits : Limits)
    (first second : List ℕ)
    → kind_number kind ≡ number → made ≡ limits → IsLimits limits
    → IfErr r (WholePairRefused made (type_of kind) first second) → IfErr r (PairRefused number limits first second)
pair_refused (Ok same) number kind made limits first second k e fine h = tt
pair_refused (Err pairs.Call) number kind made limits first second k e fine h = absurd h
pair_refused (Err (pairs.First found)) number kind made limits first second k e fine h =
    (kind, k, fine, subst (λ z. WholeFault z (type_of kind) found first) e h)
pair_refused (Err (pairs.Second found)) number kind made limits first second k e fine h =
    (kind, k, fine, subst (λ z. IsWhole z (type_of kind) first × WholeFault z (type_of kind) found second) e h)
pair_refused (Err pairs.Memory) number kind made limits first second k e fine h = (kind, k, fine, tt)

pub lines_for : {V : Type 0} (r : Result V Refusal) (items : V → List ℕ) (value_of : Document → Value) (number : ℕ)
    (kind : Kind) (made limits : Limits) (given : List ℕ)
    → kind_number kind ≡ number → made ≡ limits → IsLimits limits
    → IfOk r (λ v. WholeLines value_of made kind given (items v))
    → IfOk r (λ v. AreLines value_of number limits given (items v))
lines_for (Ok v) items value_of number kind made limits given k e fine h =
    (kind, k, fine, subst (λ z. WholeLines value_of z kind given (items v)) e h)
lines_for (Err refusal) items value_of number kind made limits given k e fine h = tt

pub part_for : {V : Type 0} (r : Result V Refusal) (items : V → List ℕ) (number : ℕ) (part : RequestPart)
    (made limits : Limits) (given : List ℕ)
    → part_number part ≡ number → made ≡ limits → IsLimits limits
    → IfOk r (λ v. WholePart made part given (items v)) → IfOk r (λ v. IsPartText number limits given (items v))
part_for (Ok v) items number part made limits given k e fine h =
    (part, k, fine, subst (λ z. WholePart z part given (items v)) e h)
part_for (Err refusal) items number part made limits given k e fine h = tt

pub kind_refused : {V : Type 0} (r : Result V Refusal) (number : ℕ) (kind : Kind) (made limits : Limits)
    (given : List ℕ)
    → kind_number kind ≡ number → made ≡ limits → IsLimits limits
    → IfErr r (WholeRefused made (type_of kind) given) → IfErr r (KindRefused number limits given)
kind_refused (Ok v) number kind made limits given k e fine h = tt
kind_refused (Err refusals.Call) number kind made limits given k e fine h = absurd h
kind_refused (Err (refusals.Fault found)) number kind made limits given k e fine h =
    (kind, k, fine, subst (λ z. WholeFault z (type_of kind) found given) e h)
kind_refused (Err refusals.Memory) number kind made limits given k e fine h = (kind, k, fine, tt)

pub part_refused : {V : Type 0} (r : Result V Refusal) (number : ℕ) (part : RequestPart) (made limits : Limits)
    (given : List ℕ)
    → part_number part ≡ number → made ≡ limits → IsLimits limits
    → IfErr r (WholeRefused made (type_of Request) given) → IfErr r (PartRefused number limits given)
part_refused (Ok v) number part made limits given k e fine h = tt
part_refused (Err refusals.Call) number part made limits given k e fine h = absurd h
part_refused (Err (refusals.Fault found)) number part made limits given k e fine h =
    (part, k, fine, subst (λ z. WholeFault z (type_of Request) found given) e h)
part_refused (Err refusals.Memory) number part made limits given k e fine h = (part, k, fine, tt)

pub wrote : {V : Type 0} (r : Result V Refusal) (items : V → List ℕ) (Due : List ℕ → Type 0)
    (Refused : Refusal → Type 0) (taken : ℕ) (old new : List ℕ) (outcome : PkderOutcome)
    → IfOk r (λ v. Due (items v)) → IfErr r Refused
    → IfOk r (λ v. Put (items v) taken old new outcome)
    → IfErr r (λ refusal. (outcome ≡ refused_outcome refusal) × (new ≡ old)) → Wrote Due Refused taken old new outcome
wrote (Ok v) items Due Refused taken old new outcome due holds put answered = inl (items v, due, put)
wrote (Err refusal) items Due Refused taken old new outcome due holds put answered =
    inr (refusal, holds, answered.0, answered.1)

pub checked : (r : Result (Option ℕ) Refusal) (Found : Option ℕ → Type 0) (Refused : Refusal → Type 0) (taken : ℕ)
    (outcome : PkderOutcome)
    → IfOk r Found → IfErr r Refused
    → IfOk r (λ place. outcome ≡ checked_outcome taken place) → IfErr r (λ refusal. outcome ≡ refused_outcome refusal)
    → Checked Found Refused taken outcome
checked (Ok place) Found Refused taken outcome found holds is answered = inl (place, found, is)
checked (Err refusal) Found Refused taken outcome found holds is answered = inr (refusal, holds, answered)

pub compared : (r : Result Bool PairRefusal) (Found : Bool → Type 0) (Refused : PairRefusal → Type 0)
    (outcome : PkderOutcome)
    → IfOk r Found → IfErr r Refused
    → IfOk r (λ same. outcome ≡ compared_outcome same) → IfErr r (λ refusal. outcome ≡ uncompared_outcome refusal)
    → Compared Found Refused outcome
compared (Ok same) Found Refused outcome found holds is answered = inl (same, found, is)
compared (Err refusal) Found Refused outcome found holds is answered = inr (refusal, holds, answered)

pub report_for : {V : Type 0} (r : Result V Refusal) (items : V → List ℕ) (answer : V → Answer) (form number : ℕ)
    (wanted : Form) (kind : Kind) (made limits : Limits) (given : List ℕ)
    → IsFormOf form wanted → kind_number kind ≡ number → made ≡ limits → IsLimits limits
    → IfOk r (λ v. IsWritten wanted made kind given (items v) (answer v))
    → IfOk r (λ v. IsReport form number limits given (items v) (answer v))
report_for (Ok v) items answer form number wanted kind made limits given f k e fine h =
    (kind, k, fine, (wanted, f, subst (λ z. IsWritten wanted z kind given (items v) (answer v)) e h))
report_for (Err refusal) items answer form number wanted kind made limits given f k e fine h = tt

pub field_for : {V : Type 0} (r : Result V Refusal) (items : V → List ℕ) (answer : V → Answer) (number : ℕ)
    (kind : Kind) (made limits : Limits) (given : List ℕ)
    → kind_number kind ≡ number → made ≡ limits → IsLimits limits
    → IfOk r (λ v. IsFieldOf made kind given (items v) (answer v))
    → IfOk r (λ v. IsField number limits given (items v) (answer v))
field_for (Ok v) items answer number kind made limits given k e fine h =
    (kind, k, fine, subst (λ z. IsFieldOf z kind given (items v) (answer v)) e h)
field_for (Err refusal) items answer number kind made limits given k e fine h = tt

pub field_refused : {V : Type 0} (r : Result V Refusal) (number : ℕ) (kind : Kind) (limits : Limits)
    → kind_number kind ≡ number → IsLimits limits
    → IfErr r (λ refusal. refusal ≡ refusals.Memory) → IfErr r (FieldRefused number limits)
field_refused (Ok v) number kind limits k fine h = tt
field_refused (Err refusal) number kind limits k fine h =
    subst (FieldRefused number limits) (sym h) (kind, k, fine, tt)

pub report_refused : {V : Type 0} (r : Result V Refusal) (form number : ℕ) (kind : Kind) (limits : Limits)
    → IsFormNumber form → kind_number kind ≡ number → IsLimits limits
    → IfErr r (λ refusal. refusal ≡ refusals.Memory) → IfErr r (ReportRefused form number limits)
report_refused (Ok v) form number kind limits f k fine h = tt
report_refused (Err refusal) form number kind limits f k fine h =
    subst (ReportRefused form number limits) (sym h) (kind, k, fine, f)

pub reported : {V : Type 0} (r : Result V Refusal) (items : V → List ℕ) (answer : V → Answer)
    (Due : List ℕ → Answer → Type 0) (Refused : Refusal → Type 0) (taken : ℕ) (old new : List ℕ)
    (outcome : PkderOutcome)
    → IfOk r (λ v. Due (items v) (answer v)) → IfErr r Refused
    → IfOk r (λ v. PutReport (items v) (answer v) taken old new outcome)
    → IfErr r (λ refusal. (outcome ≡ refused_outcome refusal) × (new ≡ old))
    → Reported Due Refused taken old new outcome
reported (Ok v) items answer Due Refused taken old new outcome due holds put answered =
    inl (items v, answer v, due, put)
reported (Err refusal) items answer Due Refused taken old new outcome due holds put answered =
    inr (refusal, holds, answered.0, answered.1)
