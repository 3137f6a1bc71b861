-- What the laws on the plain reading of an element say.
use Rattle.std.specs.Prelude.{Bool, List, length, ℕ, ◌++◌, ◌+◌, ◌≡◌, ◌⊎◌}
use Rattle.tlv_core.specs.Identifier.{Tag}
use Rattle.tlv_core.specs.Limits.{Limits}
use Rattle.tlv_core.specs.declared.fault.Fault.{Fault}
use Rattle.tlv_core.specs.declared.reason.Reason.TheVariants.{Truncated}
use Rattle.tlv_core.specs.Faults.{InsideMatches}
use Rattle.x690.specs.HeaderFaults.{Stands}
use Rattle.x690.specs.Points.{Enclosing, fault}
use Rattle.x690.specs.Premises.{Fair, Honest}
use Rattle.x690.specs.ReadTypes.{read_element, read_type}
use Rattle.x690.specs.Reading.{Halted, Took, run}
use Rattle.x690.specs.Takes.{Proper, Takes}
use Rattle.x690.specs.TypeTerms.{TypeTerm}
use Rattle.x690.specs.Values.{Same, Value}

abbrev pub ReadIsTaken : Type 0
ReadIsTaken =
    (limits : Limits) (type : TypeTerm) (earlier : List Value) (enclosing : Enclosing) (place : ℕ) (octets : List ℕ)
    (value : Value) (place' : ℕ) (rest : List ℕ)
    → run (read_element limits type earlier enclosing) place octets ≡ Took value place' rest
    → (taken : ℕ) × (place' ≡ place + taken) × Takes limits type earlier enclosing place octets value taken rest

abbrev pub TakenIsRead : Type 0
TakenIsRead =
    (limits : Limits) (type : TypeTerm) (earlier : List Value) (enclosing : Enclosing) (place : ℕ) (octets : List ℕ)
    (value : Value) (taken : ℕ) (rest : List ℕ)
    → Fair type → Proper enclosing → Takes limits type earlier enclosing place octets value taken rest
    → (read : Value)
    × Same value read
    × (run (read_element limits type earlier enclosing) place octets ≡ Took read (place + taken) rest)

abbrev pub FaultTakesNothing : Type 0
FaultTakesNothing =
    (limits : Limits) (type : TypeTerm) (earlier : List Value) (enclosing : Enclosing) (place : ℕ) (octets : List ℕ)
    (found : Fault)
    → Fair type → Proper enclosing → run (read_element limits type earlier enclosing) place octets ≡ Halted found
    → (value : Value) (taken : ℕ) (rest : List ℕ) → Takes limits type earlier enclosing place octets value taken rest
    → ⊥

abbrev pub OneTaken : Type 0
OneTaken =
    (limits : Limits) (type : TypeTerm) (earlier : List Value) (enclosing : Enclosing) (place : ℕ) (octets : List ℕ)
    (v w : Value) (taken taken' : ℕ) (rest rest' : List ℕ)
    → Fair type → Proper enclosing → Takes limits type earlier enclosing place octets v taken rest
    → Takes limits type earlier enclosing place octets w taken' rest'
    → Same v w × (taken ≡ taken') × (rest ≡ rest')

pub record MoreOctets : Type 0 where
  pub value : (limits : Limits) (type : TypeTerm) (earlier : List Value) (enclosing : Enclosing) (place : ℕ)
      (octets more : List ℕ) (value : Value) (place' : ℕ) (rest : List ℕ)
      → run (read_element limits type earlier enclosing) place octets ≡ Took value place' rest
      → run (read_element limits type earlier enclosing) place (octets ++ more) ≡ Took value place' (rest ++ more)
  pub refusal : (limits : Limits) (type : TypeTerm) (earlier : List Value) (enclosing : Enclosing) (place : ℕ)
      (octets : List ℕ) (found : Fault)
      → run (read_element limits type earlier enclosing) place octets ≡ Halted found
      → (found ≡ fault (place + length octets) Truncated)
      ⊎ ((more : List ℕ) → run (read_element limits type earlier enclosing) place (octets ++ more) ≡ Halted found)

abbrev pub TruncatedAtTheEnd : Type 0
TruncatedAtTheEnd =
    (limits : Limits) (type : TypeTerm) (earlier : List Value) (enclosing : Enclosing) (place : ℕ) (octets : List ℕ)
    (found : Fault)
    → Honest type → run (read_element limits type earlier enclosing) place octets ≡ Halted found → found.why ≡ Truncated
    → found ≡ fault (place + length octets) Truncated

abbrev pub InsideOfFaults : Type 0
InsideOfFaults =
    (limits : Limits) (type : TypeTerm) (earlier : List Value) (enclosing : Enclosing) (place : ℕ) (octets : List ℕ)
    (found : Fault)
    → Honest type → run (read_element limits type earlier enclosing) place octets ≡ Halted found → InsideMatches found

-- After an identifier that stands, as a reader of a type is called.
abbrev pub BehindIsTaken : Type 0
BehindIsTaken =
    (limits : Limits) (type : TypeTerm) (earlier : List Value) (enclosing : Enclosing) (place : ℕ) (octets : List ℕ)
    (tag : Tag) (constructed : Bool) (behind : ℕ) (rest : List ℕ) (value : Value) (place' : ℕ) (rest' : List ℕ)
    → Stands limits enclosing place octets tag constructed behind rest
    → run (read_type limits type earlier enclosing place tag constructed) behind rest ≡ Took value place' rest'
    → (taken : ℕ) × (place' ≡ place + taken) × Takes limits type earlier enclosing place octets value taken rest'

abbrev pub TakenIsBehind : Type 0
TakenIsBehind =
    (limits : Limits) (type : TypeTerm) (earlier : List Value) (enclosing : Enclosing) (place : ℕ) (octets : List ℕ)
    (tag : Tag) (constructed : Bool) (behind : ℕ) (rest : List ℕ) (value : Value) (taken : ℕ) (rest' : List ℕ)
    → Fair type → Proper enclosing → Stands limits enclosing place octets tag constructed behind rest
    → Takes limits type earlier enclosing place octets value taken rest'
    → (read : Value)
    × Same value read
    × (run (read_type limits type earlier enclosing place tag constructed) behind rest
    ≡ Took read (place + taken) rest')
