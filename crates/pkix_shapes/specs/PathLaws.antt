-- That the path to what is at fault is one.
use Rattle.std.specs.Prelude.{Bool, List, [], ℕ, ◌∷◌, ◌≡◌}
use Rattle.tlv_core.specs.Identifier.{Tag}
use Rattle.tlv_core.specs.Limits.{Limits}
use Rattle.tlv_core.specs.declared.fault.Fault.{Fault}
use Rattle.x690.specs.Points.{Enclosing}
use Rattle.x690.specs.Premises.{Fair}
use Rattle.x690.specs.Takes.{Proper}
use Rattle.x690.specs.TypeTerms.{TypeTerm}
use Rattle.x690.specs.Values.{Value}
use Rattle.pkix_shapes.specs.FaultPaths.{Faulty}
use Rattle.pkix_shapes.specs.Paths.{Path}

-- One of the paths is the beginning of the other.
abbrev pub Along : Path → Path → Type 0
Along [] other = Unit {0}
Along (step ∷ path) [] = Unit {0}
Along (step ∷ path) (step' ∷ other) = (step ≡ step') × Along path other

-- Of two paths to what is at fault in an element, one goes on from the other. So the longest one is alone, and each
-- other path ends at an element that it leads through.
abbrev pub OnePath : Type 0
OnePath =
    (limits : Limits) (type : TypeTerm) (path other : Path) (earlier : List Value) (enclosing : Enclosing) (place : ℕ)
    (tag : Tag) (constructed : Bool) (here : ℕ) (octets : List ℕ) (found found' : Fault)
    → Fair type → Proper enclosing
    → Faulty limits type path earlier enclosing place tag constructed here octets found
    → Faulty limits type other earlier enclosing place tag constructed here octets found'
    → Along path other
