-- What reading a value of a type from a source answers. Octets are told before the call and after it,
-- where the source tells them.
use Rattle.std.specs.Prelude.{List, None, Option, Some, length, ℕ, ◌++◌, ◌≡◌, ◌≤◌}
use Rattle.std.specs.Io.KnownBytes.{Consumes}
use Rattle.tlv_core.specs.Limits.{Limits}
use Rattle.tlv_core.specs.declared.fault.Fault.{Fault as Found}
use Rattle.tlv_core.specs.declared.fault.ReadError.{ReadError}
use Rattle.tlv_core.specs.declared.fault.ReadError.TheVariants.{Fault, Memory, Read}
use Rattle.tlv_core.specs.declared.reason.Reason.TheVariants.{Truncated}
use Rattle.x690.specs.Answers.{IsAnswer, Refused, Spelled, answer}
use Rattle.x690.specs.DerTexts.{der}
use Rattle.x690.specs.Fitting.{Spells}
use Rattle.x690.specs.Points.{fault}
use Rattle.x690.specs.TypeTerms.{TypeTerm}
use Rattle.x690.specs.Values.{Same, Value}

-- A value was read, and so many octets were taken.
pub record ReadsValue (limits : Limits) (type : TypeTerm) (value : Value) (before after : Option (List ℕ))
    (taken : ℕ) : Type 0 where
  pub octets : List ℕ
  -- exactly these octets are taken, the first ones that were told
  pub takes : Consumes before after octets
  pub taken_are : taken ≡ length octets
  -- they spell the value, up to the order in SET OF
  pub spelled : Value
  pub spells : Spells limits type spelled octets
  pub same : Same spelled value
  -- and this is the answer by the definitions, whatever stands after them,
  pub is_answer : (more : List ℕ) → IsAnswer limits type (octets ++ more) (Spelled (der value) taken)
  -- and what the plain reading answers
  pub answers : (more : List ℕ) → answer limits type (octets ++ more) ≡ Spelled (der value) taken

-- The answer to the octets is this fault: by the definitions, it stops the document, or the text of its value is too
-- long; and so the plain reading answers.
pub record AnswersFault (limits : Limits) (type : TypeTerm) (octets : List ℕ) (found : Found) : Type 0 where
  pub is_answer : IsAnswer limits type octets (Refused found)
  pub answers : answer limits type octets ≡ Refused found

-- Why there is no value, these octets being taken of those that were told: a fault is the answer to all of them;
-- where a read failed, the octets taken are too few for any other answer; where memory ran out, no octet is taken
-- after a value that stands there.
abbrev pub Halts : Limits → TypeTerm → ReadError → List ℕ → List ℕ → Type 0
Halts limits type (Fault found) octets before = AnswersFault limits type before found
Halts limits type (Read at) octets before = (at ≡ length octets) × AnswersFault limits type octets (fault at Truncated)
Halts limits type Memory octets before =
    (text : List ℕ) (taken : ℕ) → answer limits type before ≡ Spelled text taken → length octets ≤ taken

-- No value was read, and no more octets were taken than the limit. Of a source that doesn't tell its octets nothing is
-- said.
abbrev pub StopsReading : Limits → TypeTerm → ReadError → Option (List ℕ) → Option (List ℕ) → Type 0
StopsReading limits type error None after = Unit {0}
StopsReading limits type error (Some before) None = ⊥
StopsReading limits type error (Some before) (Some after) =
    (octets : List ℕ)
    × (before ≡ octets ++ after)
    × Halts limits type error octets before
    × (length octets ≤ limits.octets)
