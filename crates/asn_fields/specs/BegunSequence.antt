-- A SEQUENCE that is read field by field: what was read so far, and what is left to read.
use Rattle.std.specs.Prelude.{List, MatchResult, Option, Result, [], ℕ, ◌++◌}
use Rattle.tlv_core.specs.declared.fault.ReadError.{ReadError}
use Rattle.tlv_core.specs.declared.source.Source.{Ghosts}
use Rattle.x690.specs.Lists.{Each}
use Rattle.x690.specs.Points.{Enclosing}
use Rattle.x690.specs.ReadHeaders.{Next}
use Rattle.x690.specs.ReadTypes.{read_fields}
use Rattle.x690.specs.Reading.{Reading, ◌>>=◌}
use Rattle.x690.specs.TypeTerms.{Fields}
use Rattle.x690.specs.Values.{Same, Value}
use Rattle.asn_fields.specs.Insides.{Inside}
use Rattle.ber_pull.specs.Hears.{Continues, Hears, heard_error}
use Rattle.ber_pull.specs.Standing.{Standing}
use Rattle.ber_pull.specs.View.{told}
use Rattle.ber_pull.specs.declared.pull.Pull.{Pull}
use Rattle.asn_fields.specs.Fields.{next_of}
use Rattle.asn_fields.specs.declared.next.Next as code

-- `whole` was begun at place `k`, with the octets `s` told. It stands inside, before `next`, with `t` told;
-- `ws` were read, and these fields are left: what is answered of them from here on, with `finish` of all
-- values, answers the whole.
pub record BegunSequence (k : ℕ) (s : Option (List ℕ)) (whole : Reading Value) (finish : List Value → Reading Value)
    (fields : Fields) (ws : List Value) (next : Next) (now : Standing) (t : Option (List ℕ)) : Type 0 where
  pub values : List Value
  pub same : Each Same values ws
  pub outer : Standing
  pub inside : Enclosing
  pub stands : Inside outer inside now next
  pub onward : Continues whole k s
      (read_fields outer.limits fields values inside next >>= λ more. finish (values ++ more)) now.taken t

-- Wherever these fields are the first that are left, they are read: their values stand after those that were read
-- before, and the others are left; or what is answered is the error of the whole.
abbrev pub ReadsFields : {R A : Type 0} {s : Ghosts R} → Pull R s → Pull R s → code.Next → code.Next → (Fields → Fields)
    → (A → List Value) → Result A ReadError → Type 0
ReadsFields old new next next' fields values result =
    (k : ℕ) (s : Option (List ℕ)) (whole : Reading Value) (finish : List Value → Reading Value) (rest : Fields)
    (ws : List Value)
    → BegunSequence k s whole finish (fields rest) ws (next_of next) old.state (told old)
    → MatchResult result
    (λ x. BegunSequence k s whole finish rest (ws ++ values x) (next_of next') new.state (told new))
    (λ e. Hears whole k s (heard_error e) new.state.taken (told new))

-- The same of the first fields of the container.
abbrev pub ReadsFirst : {R A : Type 0} {s : Ghosts R} → Pull R s → Pull R s → code.Next → code.Next → (Fields → Fields)
    → (A → List Value) → Result A ReadError → Type 0
ReadsFirst old new next next' fields values result =
    (k : ℕ) (s : Option (List ℕ)) (whole : Reading Value) (finish : List Value → Reading Value) (rest : Fields)
    → BegunSequence k s whole finish (fields rest) [] (next_of next) old.state (told old)
    → MatchResult result (λ x. BegunSequence k s whole finish rest (values x) (next_of next') new.state (told new))
    (λ e. Hears whole k s (heard_error e) new.state.taken (told new))
