-- What is at a fault, by one of a few tags.
use Rattle.std.specs.Prelude.{Bool, List, None, Option, Some, cond, false, true, ℕ, ◌==◌}
use Rattle.std.specs.List.{slice_get}
use Rattle.tlv_core.specs.Identifier.{Tag}
use Rattle.x690.specs.Layouts.{context_specific, universal}
use Rattle.explain.specs.declared.fault.class.ElementClass.{ElementClass}

abbrev pub class_as : Tag → Bool → Option ElementClass
class_as tag constructed = Some (record { tag = tag; constructed = constructed })

-- The class that an identifier octet says (X.690 8.1.2), where it is one of ten.
abbrev pub class_of : ℕ → Option ElementClass
class_of identifier =
    cond (identifier == 2) (class_as (universal 2) false)
    (cond (identifier == 3) (class_as (universal 3) false)
    (cond (identifier == 4) (class_as (universal 4) false)
    (cond (identifier == 5) (class_as (universal 5) false)
    (cond (identifier == 6) (class_as (universal 6) false)
    (cond (identifier == 12) (class_as (universal 12) false)
    (cond (identifier == 48) (class_as (universal 16) true)
    (cond (identifier == 49) (class_as (universal 17) true)
    (cond (identifier == 160) (class_as (context_specific 0) true)
    (cond (identifier == 161) (class_as (context_specific 1) true) None)))))))))

abbrev pub kept_if : ℕ → Option ElementClass → Option ℕ
kept_if identifier None = None
kept_if identifier (Some class) = Some identifier

-- an identifier octet, where it says one of these
abbrev pub with_class : ℕ → Option ℕ
with_class identifier = kept_if identifier (class_of identifier)

abbrev pub class_by : Option ℕ → Option ℕ
class_by None = None
class_by (Some identifier) = with_class identifier

-- that of the element that begins at a place
abbrev pub class_at : List ℕ → ℕ → Option ℕ
class_at document place = class_by (slice_get document place)
