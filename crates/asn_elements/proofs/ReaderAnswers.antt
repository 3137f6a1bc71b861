-- Answers of readers: a fault that a reader found, an error that it hands on, want of memory.
use Rattle.std.proofs.Common.{◌≡◌, ◌∙◌, Bool, Err, IsSome, List, None, Option, Result, Some, ℕ, ap, false, refl, subst, sym, true}
use Rattle.tlv_core.specs.declared.fault.Fault.{Fault}
use Rattle.tlv_core.specs.declared.fault.ReadError.{ReadError}
use Rattle.tlv_core.specs.declared.fault.ReadError.TheVariants as errors
use Rattle.tlv_core.specs.declared.reason.Reason.TheVariants.{WrongTag}
use Rattle.tlv_core.specs.declared.source.Source.{Ghosts}
use Rattle.x690.specs.Points.{fault}
use Rattle.x690.specs.Reading.{Reading, require}
use Rattle.x690.specs.ReadHeaders.{Ended}
use Rattle.x690.specs.Reads.{Heard, Refused}
use Rattle.x690.specs.Values.{Value}
use Rattle.ber_pull.specs.Hears.{Hears, heard_error}
use Rattle.ber_pull.specs.Standing.{Standing, failed_with, place}
use Rattle.ber_pull.specs.View.{Answers, Unmoved, source, standing}
use Rattle.ber_pull.specs.declared.pull.Pull.{Pull}
use Rattle.ber_pull.specs.declared.state.Given.{Given}
use Rattle.asn_elements.specs.Reading.{AnswersMembers, AnswersValue}
use Rattle.ber_pull.proofs.Hearing.{hears_at, hears_off, hears_stop}

pub place_given : (s : Standing) (g : Given) → s.given ≡ Some g → place s ≡ g.at
place_given s g is = rw is refl

-- the reader refused, where the reading does
pub refused_by : {R : Type 0} {s : Ghosts R} {A : Type 0} (p : Reading A) (old mid new : Pull R s) (f : Fault)
    (e : ReadError)
    → e ≡ errors.Fault f → standing new ≡ failed_with e (standing mid) → source new ≡ source mid
    → Answers old mid p (Refused f) → Answers old new p (heard_error e)
refused_by {R} {s} p old mid new f e x stands same h =
    hears_stop p f e _ _ _ _ _ _ x (ap (λ z. z.taken) stands) (ap s.remaining same) h

-- the element that is given has another tag than is due
pub wrong_tag : {R : Type 0} {s : Ghosts R} {A : Type 0} (b : Bool) (p : Reading A) (old mid new : Pull R s) (g : Given)
    (at : ℕ) (e : ReadError)
    → b ≡ false → (standing old).given ≡ Some g → at ≡ place (standing old) → Unmoved old mid
    → e ≡ errors.Fault (fault at WrongTag) → standing new ≡ failed_with e (standing mid) → source new ≡ source mid
    → Answers old new (require b (fault g.at WrongTag) p) (heard_error e)
wrong_tag {R} {s} b p old mid new g at e off is here same x stands src =
    refused_by _ old mid new (fault g.at WrongTag) e
    (x ∙ ap (λ q. errors.Fault (fault q WrongTag)) (here ∙ place_given (standing old) g is)) stands src
    (hears_at _ _ _ _ _ _ _ _ (ap (λ z. z.taken) same.0) (ap s.remaining same.1) (hears_off _ _ _ _ _ off))

pub both_ways : (a b : Bool) → (a ≡ true → b ≡ true) → (b ≡ true → a ≡ true) → a ≡ b
both_ways true b f g = sym (f refl)
both_ways false true f g = g refl
both_ways false false f g = refl

-- what is answered from a reader that stands as it did
pub unmoved_answers : {R : Type 0} {s : Ghosts R} {A : Type 0} (f : Standing → Reading A) (old mid new : Pull R s)
    (h : Heard A)
    → Unmoved old mid → Answers mid new (f (standing mid)) h → Answers old new (f (standing old)) h
unmoved_answers {R} {s} f old mid new h u x =
    subst (λ z. Hears (f z) z.taken (s.remaining old.src.now) h new.state.taken (s.remaining new.src.now)) u.0
    (subst (λ w. Hears (f mid.state) mid.state.taken (s.remaining w) h new.state.taken (s.remaining new.src.now)) u.1 x)

pub given_still : {R : Type 0} {s : Ghosts R} (old mid : Pull R s) (g : Given) → Unmoved old mid
    → (standing old).given ≡ Some g → (standing mid).given ≡ Some g
given_still old mid g u is = ap (λ z. z.given) u.0 ∙ is

pub fine_still : {R : Type 0} {s : Ghosts R} (old mid : Pull R s) → Unmoved old mid → (standing old).error ≡ None
    → (standing mid).error ≡ None
fine_still old mid u fine = ap (λ z. z.error) u.0 ∙ fine

-- an option that is nothing
pub none_by : {A : Type 0} (o : Option A) → ((a : A) → o ≡ Some a → ⊥) → o ≡ None
none_by None h = refl
none_by (Some a) h = absurd (h a refl)

-- an error that is handed on
pub value_err : {R : Type 0} {s : Ghosts R} {A : Type 0} (old new : Pull R s) (p : Reading Value) (value : A → Value)
    (r : Result A ReadError) (e : ReadError)
    → r ≡ Err e → Answers old new p (heard_error e) → AnswersValue old new p value r
value_err old new p value r e h x = subst (AnswersValue old new p value) (sym h) x

pub members_err : {R : Type 0} {s : Ghosts R} {A : Type 0} (old new : Pull R s) (p : Reading (Ended (List Value)))
    (values : A → List Value) (at : A → ℕ) (r : Result A ReadError) (e : ReadError)
    → r ≡ Err e → Answers old new p (heard_error e) → AnswersMembers old new p values at r
members_err old new p values at r e h x = subst (AnswersMembers old new p values at) (sym h) x

pub some_given : {A : Type 0} (o : Option A) → IsSome o → (a : A) × (o ≡ Some a)
some_given None h = cc
some_given (Some a) h = (a, refl)
