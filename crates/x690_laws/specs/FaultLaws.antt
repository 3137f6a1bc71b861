-- What the laws on the fault grammar say.
use Rattle.std.specs.Prelude.{Bool, List, ℕ, ◌≡◌}
use Rattle.tlv_core.specs.Identifier.{Tag}
use Rattle.tlv_core.specs.Limits.{Limits}
use Rattle.tlv_core.specs.declared.fault.Fault.{Fault}
use Rattle.x690.specs.HeaderFaults.{Stands}
use Rattle.x690.specs.Points.{Enclosing}
use Rattle.x690.specs.Premises.{Fair}
use Rattle.x690.specs.ReadTypes.{read_element, read_type}
use Rattle.x690.specs.Reading.{Halted, run}
use Rattle.x690.specs.Stops.{Stops, StopsBehind}
use Rattle.x690.specs.Takes.{Proper, Takes}
use Rattle.x690.specs.TypeTerms.{TypeTerm}
use Rattle.x690.specs.Values.{Value}

abbrev pub FaultStops : Type 0
FaultStops =
    (limits : Limits) (type : TypeTerm) (earlier : List Value) (enclosing : Enclosing) (place : ℕ) (octets : List ℕ)
    (found : Fault)
    → run (read_element limits type earlier enclosing) place octets ≡ Halted found
    → Stops limits type earlier enclosing place octets found

abbrev pub StopIsFault : Type 0
StopIsFault =
    (limits : Limits) (type : TypeTerm) (earlier : List Value) (enclosing : Enclosing) (place : ℕ) (octets : List ℕ)
    (found : Fault)
    → Fair type → Proper enclosing → Stops limits type earlier enclosing place octets found
    → run (read_element limits type earlier enclosing) place octets ≡ Halted found

pub record OneFault : Type 0 where
  pub single : (limits : Limits) (type : TypeTerm) (earlier : List Value) (enclosing : Enclosing) (place : ℕ)
      (octets : List ℕ) (found other : Fault)
      → Fair type → Proper enclosing → Stops limits type earlier enclosing place octets found
      → Stops limits type earlier enclosing place octets other → found ≡ other
  pub apart : (limits : Limits) (type : TypeTerm) (earlier : List Value) (enclosing : Enclosing) (place : ℕ)
      (octets : List ℕ) (found : Fault) (value : Value) (taken : ℕ) (rest : List ℕ)
      → Fair type → Proper enclosing → Stops limits type earlier enclosing place octets found
      → Takes limits type earlier enclosing place octets value taken rest → ⊥

-- After an identifier that stands, as a reader of a type is called.
pub record BehindStops : Type 0 where
  pub fault_stops : (limits : Limits) (type : TypeTerm) (earlier : List Value) (enclosing : Enclosing) (place : ℕ)
      (octets : List ℕ) (tag : Tag) (constructed : Bool) (behind : ℕ) (rest : List ℕ) (found : Fault)
      → Stands limits enclosing place octets tag constructed behind rest
      → run (read_type limits type earlier enclosing place tag constructed) behind rest ≡ Halted found
      → StopsBehind limits type earlier enclosing place tag constructed behind rest found
  pub stop_is_fault : (limits : Limits) (type : TypeTerm) (earlier : List Value) (enclosing : Enclosing) (place : ℕ)
      (octets : List ℕ) (tag : Tag) (constructed : Bool) (behind : ℕ) (rest : List ℕ) (found : Fault)
      → Fair type → Proper enclosing → Stands limits enclosing place octets tag constructed behind rest
      → StopsBehind limits type earlier enclosing place tag constructed behind rest found
      → run (read_type limits type earlier enclosing place tag constructed) behind rest ≡ Halted found
