-- Plain readings: what is asked of the input, octet by octet, and what is answered. A reading is data, a tree; `run`
-- walks it along the octets.
use Rattle.std.specs.Prelude.{Bool, List, [], false, true, ℕ, ◌+◌, ◌∷◌}
use Rattle.tlv_core.specs.declared.fault.Fault.{Fault}
use Rattle.tlv_core.specs.declared.reason.Reason.TheVariants.{Truncated}
use Rattle.x690.specs.Points.{fault}

pub data Reading (A : Type 0) : Type 0 where
  -- a value
  Done : A → Reading A
  -- a fault
  Fail : Fault → Reading A
  -- goes on with the place where it stands
  Where : (ℕ → Reading A) → Reading A
  -- goes on with the next octet
  Ask : (ℕ → Reading A) → Reading A

infixl 10 ◌>>=◌
-- one reading, and then another with the value that it gave
unfoldable pub ◌>>=◌ : {A B : Type 0} → Reading A → (A → Reading B) → Reading B
(Done value) >>= then' = then' value
(Fail fault') >>= then' = Fail fault'
(Where reading) >>= then' = Where (λ place. reading place >>= then')
(Ask reading) >>= then' = Ask (λ octet. reading octet >>= then')

-- the reading where the test holds, else the fault
unfoldable pub require : {A : Type 0} → Bool → Fault → Reading A → Reading A
require test fault' reading = elim test [ true ↦ reading | false ↦ Fail fault' ]

unfoldable pub choose : {A : Type 0} → Bool → Reading A → Reading A → Reading A
choose test first second = elim test [ true ↦ first | false ↦ second ]

pub data Outcome (A : Type 0) : Type 0 where
  -- the value, the place after what was taken, and the octets from there on
  Took : A → ℕ → List ℕ → Outcome A
  Halted : Fault → Outcome A

-- The outcome of a reading that begins at a place, before these octets. Where an octet is asked for and none is left,
-- the document is truncated there.
unfoldable pub run : {A : Type 0} → Reading A → ℕ → List ℕ → Outcome A
run (Done value) place octets = Took value place octets
run (Fail fault') place octets = Halted fault'
run (Where reading) place octets = run (reading place) place octets
run (Ask reading) place [] = Halted (fault place Truncated)
run (Ask reading) place (octet ∷ octets) = run (reading octet) (place + 1) octets
