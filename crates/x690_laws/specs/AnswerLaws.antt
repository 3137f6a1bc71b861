-- What the laws on the answer to a whole document say.
use Rattle.std.specs.Prelude.{List, length, ℕ, ◌++◌, ◌<◌, ◌≡◌, ◌⊎◌}
use Rattle.tlv_core.specs.Limits.{Limits}
use Rattle.tlv_core.specs.declared.fault.Fault.{Fault}
use Rattle.tlv_core.specs.declared.reason.Reason.TheVariants.{Truncated}
use Rattle.x690.specs.Answers.{Answer, IsAnswer, Refused, Spelled, answer}
use Rattle.x690.specs.DerTexts.{der}
use Rattle.x690.specs.Fitting.{Spells}
use Rattle.tlv_core.specs.Faults.{InsideMatches}
use Rattle.x690.specs.Points.{fault}
use Rattle.x690.specs.Premises.{Fair, Honest, Lawful}
use Rattle.x690.specs.TypeTerms.{TypeTerm}
use Rattle.x690.specs.Values.{Same, Value}

pub record OneAnswer : Type 0 where
  pub is_answer : (limits : Limits) (type : TypeTerm) (octets : List ℕ)
      → IsAnswer limits type octets (answer limits type octets)
  pub no_other : (limits : Limits) (type : TypeTerm) (octets : List ℕ) (other : Answer) → Fair type
      → IsAnswer limits type octets other → other ≡ answer limits type octets

abbrev pub SpellingIsAnswered : Type 0
SpellingIsAnswered =
    (limits : Limits) (type : TypeTerm) (value : Value) (octets rest : List ℕ) → Fair type
    → Spells limits type value octets
    → answer limits type (octets ++ rest) ≡ Spelled (der value) (length octets)

abbrev pub RefusedIsSpelledByNone : Type 0
RefusedIsSpelledByNone =
    (limits : Limits) (type : TypeTerm) (octets : List ℕ) (found : Fault) → Fair type
    → answer limits type octets ≡ Refused found
    → (value : Value) (first rest : List ℕ) → octets ≡ first ++ rest → Spells limits type value first → ⊥

pub record NeededOctets : Type 0 where
  pub more : (limits : Limits) (type : TypeTerm) (octets : List ℕ)
      → (answer limits type octets ≡ Refused (fault (length octets) Truncated))
      ⊎ ((more : List ℕ) → answer limits type (octets ++ more) ≡ answer limits type octets)
  pub truncated : (limits : Limits) (type : TypeTerm) (octets : List ℕ) (found : Fault) → Honest type
      → answer limits type octets ≡ Refused found → found.why ≡ Truncated
      → found ≡ fault (length octets) Truncated

abbrev pub InsideOfAnswers : Type 0
InsideOfAnswers =
    (limits : Limits) (type : TypeTerm) (octets : List ℕ) (found : Fault) → Honest type
    → answer limits type octets ≡ Refused found → InsideMatches found

abbrev pub TextAnswersItself : Type 0
TextAnswersItself =
    (limits : Limits) (type : TypeTerm) (octets text : List ℕ) (taken : ℕ) → Lawful type → limits.octets < 2147483648
    → answer limits type octets ≡ Spelled text taken → answer limits type text ≡ Spelled text (length text)

-- The limits may differ.
pub record TextsTellValues : Type 0 where
  pub one_text : (v w : Value) → Same v w → der v ≡ der w
  pub one_value : (limits limits' : Limits) (type : TypeTerm) (v w : Value) (octets octets' : List ℕ) → Lawful type
      → limits.octets < 2147483648
      → Spells limits type v octets → Spells limits' type w octets' → der v ≡ der w → Same v w
