-- Lengths as the reader keeps them.
use Rattle.std.specs.Prelude.{MatchResult, Result, ℕ, ◌+◌, ◌^◌, ◌≡◌, ◌≤◌, ◌⊎◌}
use Rattle.tlv_core.specs.declared.fault.ReadError.{ReadError}
use Rattle.tlv_core.specs.declared.source.Source.{Ghosts}
use Rattle.x690.specs.ReadHeaders as headers
use Rattle.x690.specs.Reading.{Reading}
use Rattle.x690.specs.Reads.{Said}
use Rattle.ber_pull.specs.Hears.{heard_error}
use Rattle.ber_pull.specs.Standing.{Standing}
use Rattle.ber_pull.specs.View.{Answers}
use Rattle.ber_pull.specs.declared.header.LengthForm.{LengthForm}
use Rattle.ber_pull.specs.declared.header.LengthForm.TheVariants as forms
use Rattle.ber_pull.specs.declared.pull.Pull.{Pull}

abbrev pub form_of : LengthForm → headers.LengthForm
form_of (forms.Definite n) = headers.DefiniteLength n
form_of forms.Indefinite = headers.IndefiniteLength

-- the contents end within the limit
abbrev pub IsWithin : Standing → LengthForm → Type 0
IsWithin s (forms.Definite n) = s.taken + n ≤ s.limits.octets
IsWithin s forms.Indefinite = Unit {0}

-- `m` is the number `n`, or both are past every place
abbrev pub IsClipped : ℕ → ℕ → Type 0
IsClipped n m = (m ≡ n) ⊎ ((2 ^ 32 ≤ n) × (2 ^ 32 ≤ m))

-- the number that the reading gives is answered, or another one where both are past every place
abbrev pub AnswersClipped : {R : Type 0} {s : Ghosts R} → Pull R s → Pull R s → Reading ℕ → Result ℕ ReadError → Type 0
AnswersClipped old new p result =
    MatchResult result (λ m. (n : ℕ) × IsClipped n m × Answers old new p (Said n))
    (λ e. Answers old new p (heard_error e))
