-- Contents that come in pieces.
use Rattle.std.specs.Prelude.{List, MatchResult, None, Option, Result, Some, [], length, ℕ, ◌+◌, ◌++◌, ◌<◌, ◌∷◌, ◌≡◌, ◌≤◌}
use Rattle.std.specs.Io.KnownBytes.{Consumes}
use Rattle.tlv_core.specs.declared.fault.ReadError.{ReadError}
use Rattle.tlv_core.specs.declared.source.Source.{Ghosts}
use Rattle.x690.specs.ReadHeaders.{next_octets}
use Rattle.ber_pull.specs.Hears.{heard_error}
use Rattle.ber_pull.specs.View.{Answers, told}
use Rattle.ber_pull.specs.declared.pull.Pull.{Pull}

-- the contents that are told apart where they are one octet
abbrev pub octet_or : List ℕ → Option ℕ → List ℕ
octet_or others (Some octet) = octet ∷ []
octet_or others None = others

-- the octets that were taken stand after those that came before: at least one, and at most so many
pub record PieceCame {R : Type 0} {s : Ghosts R} (old new : Pull R s) (before after : List ℕ) (most : ℕ) : Type 0 where
  pub octets : List ℕ
  pub is : after ≡ before ++ octets
  pub consumed : Consumes (told old) (told new) octets
  pub count : new.state.taken ≡ old.state.taken + length octets
  pub some : 0 < length octets
  pub most_of_them : length octets ≤ most

-- a piece came, or the error is what the reading of all of them gives
abbrev pub AddsPiece : {R : Type 0} {s : Ghosts R} → Pull R s → Pull R s → List ℕ → List ℕ → ℕ
    → Result (Unit {0}) ReadError → Type 0
AddsPiece old new before after most result =
    MatchResult result (λ _. PieceCame old new before after most)
    (λ e. Answers old new (next_octets most) (heard_error e))
