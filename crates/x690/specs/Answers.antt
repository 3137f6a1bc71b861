-- The answer to a document.
use Rattle.std.specs.Prelude.{List, [], false, length, nat_le, true, ℕ, ◌++◌, ◌<◌, ◌≡◌, ◌⊎◌}
use Rattle.tlv_core.specs.Limits.{Limits}
use Rattle.tlv_core.specs.declared.fault.Fault.{Fault}
use Rattle.tlv_core.specs.declared.reason.Reason.TheVariants.{TextTooLong}
use Rattle.x690.specs.DerTexts.{der}
use Rattle.x690.specs.Fitting.{Spells}
use Rattle.x690.specs.Points.{fault, outermost}
use Rattle.x690.specs.ReadTypes.{read_document}
use Rattle.x690.specs.Reading.{Halted, Took}
use Rattle.x690.specs.Stops.{Stops}
use Rattle.x690.specs.Takes.{Takes}
use Rattle.x690.specs.TypeTerms.{TypeTerm}
use Rattle.x690.specs.Values.{Value}

pub data Answer : Type 0 where
  -- the DER text of the value, and the number of octets that spelled it
  Spelled : List ℕ → ℕ → Answer
  Refused : Fault → Answer

-- What the plain reading answers to a document of the type. That the DER text is too long is judged last of all.
unfoldable pub answer : Limits → TypeTerm → List ℕ → Answer
answer limits type octets =
    elim (read_document limits type octets) [
      | Halted fault ↦ Refused fault
      | Took value taken rest ↦ elim (nat_le (length (der value)) limits.octets) [
        | true ↦ Spelled (der value) taken
        | false ↦ Refused (fault 0 TextTooLong)
      ]
    ]

-- The DER text of a value whose octets are taken is longer than the limit.
pub record TextIsTooLong (limits : Limits) (type : TypeTerm) (octets : List ℕ) : Type 0 where
  pub value : Value
  pub taken : ℕ
  pub rest : List ℕ
  pub takes : Takes limits type [] outermost 0 octets value taken rest
  pub too_long : limits.octets < length (der value)

-- The first octets, so many of them, spell a value, and this is its DER text.
pub record SpelledBy (limits : Limits) (type : TypeTerm) (octets text : List ℕ) (taken : ℕ) : Type 0 where
  pub value : Value
  pub first : List ℕ
  pub rest : List ℕ
  pub is : octets ≡ first ++ rest
  pub count : length first ≡ taken
  pub spells : Spells limits type value first
  pub text_is : text ≡ der value

-- The answer that the definitions give, the plain reading apart: octets that spell a value, or the
-- fault that stops the document.
abbrev pub IsAnswer : Limits → TypeTerm → List ℕ → Answer → Type 0
IsAnswer limits type octets (Spelled text taken) = SpelledBy limits type octets text taken
IsAnswer limits type octets (Refused why) =
    Stops limits type [] outermost 0 octets why ⊎ (TextIsTooLong limits type octets × (why ≡ fault 0 TextTooLong))
