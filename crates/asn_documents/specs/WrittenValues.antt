-- What writing a text does.
use Rattle.std.specs.Prelude.{◌≡◌, ◌≤◌, ℕ, Bool, List, MatchResult, Option, Result, false, length, take, true}
use Rattle.std.specs.Io.KnownBytes.{Appends}
use Rattle.tlv_core.specs.declared.sink.WriteError.{WriteError}

-- The text is written, and its length answered; or the writer failed, and the first octets of the text are out,
-- as many as the error tells.
abbrev pub WritesText : List ℕ → Option (List ℕ) → Option (List ℕ) → Bool → Result ℕ WriteError → Type 0
WritesText text old new failed result =
    MatchResult result
    (λ count. (count ≡ length text) × Appends old new text × (failed ≡ false))
    (λ error. (error.written ≤ length text) × Appends old new (take error.written text) × (failed ≡ true))
