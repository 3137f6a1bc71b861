-- That names follow the reading of types: what is due by a type without its rules is what is due by the type, and
-- each step of a name is a step of the fault grammar.
use Rattle.std.specs.Prelude.{Bool, List, [], false, ℕ, ◌++◌, ◌+◌, ◌∷◌, ◌≡◌, ◌⊎◌}
use Rattle.tlv_core.specs.Identifier.{Tag}
use Rattle.tlv_core.specs.Limits.{Limits}
use Rattle.tlv_core.specs.declared.fault.Fault.{Fault}
use Rattle.tlv_core.specs.declared.reason.Reason.TheVariants.{Extra, Missing, WrongTag}
use Rattle.x690.specs.HeaderFaults.{EndsHere, Stands}
use Rattle.x690.specs.Points.{Enclosing, fault}
use Rattle.x690.specs.Stops.{StopsBehind, StopsFields}
use Rattle.x690.specs.Takes.{Takes}
use Rattle.x690.specs.TypeTerms as types
use Rattle.x690.specs.TypeTerms.{Chosen, TypeTerm, fits_tag}
use Rattle.x690.specs.Values.{Leaf, Same, Value}
use Rattle.pkix_shapes.specs.Dues.{Due, IsExtra, IsField, IsWrong, due_in, may_end}
use Rattle.pkix_shapes.specs.Terms.{bare, bare_fields}

-- what is due, without the rules of its type
abbrev pub bare_due : Due → Due
bare_due (IsField type fields) = IsField (bare type) (bare_fields fields)
bare_due (IsWrong type) = IsWrong (bare type)
bare_due IsExtra = IsExtra

-- The values of the earlier fields, once the field that an element of the tag belongs to is taken with this value: one
-- that is the default is none of them.
abbrev pub Follows : types.Fields → Tag → Value → List Value → List Value → Type 0
Follows types.EndOfFields tag value earlier later = ⊥
Follows (types.Required type fields) tag value earlier later = later ≡ earlier ++ (value ∷ [])
Follows (types.Optional type fields) tag value earlier later =
    Chosen (fits_tag type tag) (later ≡ earlier ++ (value ∷ [])) (Follows fields tag value earlier later)
Follows (types.Default own contents type fields) tag value earlier later =
    Chosen (fits_tag type tag)
    ((Same value (Leaf own contents) × (later ≡ earlier))
    ⊎ ((Same value (Leaf own contents) → ⊥) × (later ≡ earlier ++ (value ∷ []))))
    (Follows fields tag value earlier later)

-- An element is here, among these fields.
pub record Among (limits : Limits) (enclosing : Enclosing) (place : ℕ) (octets : List ℕ) (tag : Tag)
    (constructed : Bool) (following : ℕ) (rest : List ℕ) (fields : types.Fields) (due : Due) : Type 0 where
  pub stands : Stands limits enclosing place octets tag constructed following rest
  pub is : due_in fields tag ≡ due

-- All steps from the fields of a container to an element among them.
pub record DueLaws : Type 0 where
  -- rules change nothing of what is due
  pub bare_tags : (type : TypeTerm) (tag : Tag) → fits_tag (bare type) tag ≡ fits_tag type tag
  pub bare_dues : (fields : types.Fields) (tag : Tag) → due_in (bare_fields fields) tag ≡ bare_due (due_in fields tag)
  -- an element that is none of a field that is due is WrongTag there
  pub wrong : (limits : Limits) (enclosing : Enclosing) (place : ℕ) (octets : List ℕ) (tag : Tag) (constructed : Bool)
      (following : ℕ) (rest : List ℕ) (fields : types.Fields) (type : TypeTerm) (earlier : List Value)
      → Among limits enclosing place octets tag constructed following rest fields (IsWrong type)
      → StopsFields limits fields earlier enclosing place octets (fault place WrongTag)
  -- an element after the last field is Extra there
  pub extra : (limits : Limits) (enclosing : Enclosing) (place : ℕ) (octets : List ℕ) (tag : Tag) (constructed : Bool)
      (following : ℕ) (rest : List ℕ) (fields : types.Fields) (earlier : List Value)
      → Among limits enclosing place octets tag constructed following rest fields IsExtra
      → StopsFields limits fields earlier enclosing place octets (fault place Extra)
  -- where a field that has to be there is left, the end of the container is Missing there
  pub missing : (limits : Limits) (enclosing : Enclosing) (place : ℕ) (octets : List ℕ) (fields : types.Fields)
      (earlier : List Value)
      → EndsHere limits enclosing place octets → may_end fields ≡ false
      → StopsFields limits fields earlier enclosing place octets (fault place Missing)
  -- a fault in the element of a field is the fault of the fields
  pub inside : (limits : Limits) (enclosing : Enclosing) (place : ℕ) (octets : List ℕ) (tag : Tag) (constructed : Bool)
      (following : ℕ) (rest : List ℕ) (fields after : types.Fields) (type : TypeTerm) (earlier : List Value)
      (found : Fault)
      → Among limits enclosing place octets tag constructed following rest fields (IsField type after)
      → StopsBehind limits type earlier enclosing place tag constructed following rest found
      → StopsFields limits fields earlier enclosing place octets found
  -- where the element of a field is taken, a fault of the fields after it is the fault of the fields
  pub after : (limits : Limits) (enclosing : Enclosing) (place : ℕ) (octets : List ℕ) (tag : Tag) (constructed : Bool)
      (following : ℕ) (rest : List ℕ) (fields after : types.Fields) (type : TypeTerm) (earlier later : List Value)
      (value : Value) (taken : ℕ) (left : List ℕ) (found : Fault)
      → Among limits enclosing place octets tag constructed following rest fields (IsField type after)
      → Takes limits type earlier enclosing place octets value taken left
      → Follows fields tag value earlier later
      → StopsFields limits after later enclosing (place + taken) left found
      → StopsFields limits fields earlier enclosing place octets found
