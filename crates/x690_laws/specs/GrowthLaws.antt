-- What the laws on the lengths of DER texts say.
use Rattle.std.specs.Prelude.{Bool, List, [], length, ℕ, ◌*◌, ◌+◌, ◌<◌, ◌≡◌, ◌≤◌}
use Rattle.tlv_core.specs.Identifier.{IsTag, Tag, identifier}
use Rattle.tlv_core.specs.Limits.{Limits}
use Rattle.x690.specs.DerTexts.{der}
use Rattle.x690.specs.Fitting.{Fits}
use Rattle.x690.specs.Layouts.{LaidOut, RawTree}
use Rattle.tlv_core.specs.ObjectIdentifier.{AllBelow}
use Rattle.x690.specs.Points.{Enclosing}
use Rattle.x690.specs.ReadContents.{read_open}
use Rattle.x690.specs.ReadTypes.{read_document, read_element, read_type}
use Rattle.x690.specs.Reading.{Took, run}
use Rattle.x690.specs.Takes.{Takes}
use Rattle.x690.specs.TypeTerms.{TypeTerm}
use Rattle.x690.specs.Values.{Value}

abbrev pub Growth : Type 0
Growth =
    (depth : ℕ) (type : TypeTerm) (earlier : List Value) (tree : RawTree) (value : Value) (octets : List ℕ)
    → length octets < 1152921504606846976
    → LaidOut tree octets → Fits depth type earlier tree value → length (der value) ≤ 5 * length octets

abbrev pub GrowthByTwo : Type 0
GrowthByTwo =
    (depth : ℕ) (type : TypeTerm) (earlier : List Value) (tree : RawTree) (value : Value) (octets : List ℕ)
    → length octets < 2147483648
    → LaidOut tree octets → Fits depth type earlier tree value → length (der value) ≤ 2 * length octets

abbrev pub GrowthByHalf : Type 0
GrowthByHalf =
    (depth : ℕ) (type : TypeTerm) (earlier : List Value) (tree : RawTree) (value : Value) (octets : List ℕ)
    → AllBelow 256 octets → length octets < 2147483648
    → LaidOut tree octets → Fits depth type earlier tree value → 2 * length (der value) ≤ 3 * length octets

-- some octets whose value has a text that is half as long again
pub record HalfIsReached : Type 0 where
  pub depth : ℕ
  pub type : TypeTerm
  pub tree : RawTree
  pub value : Value
  pub octets : List ℕ
  pub below : AllBelow 256 octets
  pub some : 1 ≤ length octets
  pub short : length octets < 2147483648
  pub laid_out : LaidOut tree octets
  pub fits : Fits depth type [] tree value
  pub is : 2 * length (der value) ≡ 3 * length octets

-- The text of a value that octets from one place to another spell: at most twice as long as they
-- are, and shorter than 2^32.
pub record ShortText (value : Value) (start stop : ℕ) : Type 0 where
  pub by_two : length (der value) + 2 * start ≤ 2 * stop
  pub below : length (der value) < 4294967296

abbrev pub TakenTexts : Type 0
TakenTexts =
    (limits : Limits) (type : TypeTerm) (earlier : List Value) (enclosing : Enclosing) (place : ℕ) (octets : List ℕ)
    (value : Value) (taken : ℕ) (rest : List ℕ)
    → limits.octets < 2147483648 → Takes limits type earlier enclosing place octets value taken rest
    → ShortText value place (place + taken)

pub record ReadTexts : Type 0 where
  pub element : (limits : Limits) (type : TypeTerm) (earlier : List Value) (enclosing : Enclosing) (place : ℕ)
      (octets : List ℕ) (value : Value) (stop : ℕ) (rest : List ℕ)
      → limits.octets < 2147483648
      → run (read_element limits type earlier enclosing) place octets ≡ Took value stop rest
      → ShortText value place stop
  pub document : (limits : Limits) (type : TypeTerm) (octets : List ℕ) (value : Value) (stop : ℕ) (rest : List ℕ)
      → limits.octets < 2147483648 → read_document limits type octets ≡ Took value stop rest → ShortText value 0 stop
  -- from after the identifier, which began at `start`
  pub behind : (limits : Limits) (type : TypeTerm) (earlier : List Value) (enclosing : Enclosing) (start : ℕ)
      (tag : Tag) (constructed : Bool) (place : ℕ) (octets : List ℕ) (value : Value) (stop : ℕ) (rest : List ℕ)
      → limits.octets < 2147483648 → IsTag tag → enclosing.open_containers < limits.depth
      → start + length (identifier tag constructed) ≡ place
      → run (read_type limits type earlier enclosing start tag constructed) place octets ≡ Took value stop rest
      → ShortText value start stop
  pub open_behind : (limits : Limits) (deeper : ℕ) (enclosing : Enclosing) (start : ℕ) (tag : Tag) (constructed : Bool)
      (place : ℕ) (octets : List ℕ) (value : Value) (stop : ℕ) (rest : List ℕ)
      → limits.octets < 2147483648 → IsTag tag → enclosing.open_containers < limits.depth
      → start + length (identifier tag constructed) ≡ place
      → run (read_open deeper limits enclosing start tag constructed) place octets ≡ Took value stop rest
      → ShortText value start stop
