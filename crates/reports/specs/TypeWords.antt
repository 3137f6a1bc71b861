-- Tags and types in words.
use Rattle.std.specs.Prelude.{List, [], codes, cond, decimal, length, ℕ, ◌++◌, ◌==◌}
use Rattle.tlv_core.specs.Identifier.{Tag}
use Rattle.pkix_shapes.specs.declared.shape.Fields.{Default', Required', End, Fields, Optional'}
use Rattle.pkix_shapes.specs.declared.shape.Shape.{Choice', Containing', DefinedBy', Leaf, ListOf', Named', Open, Private', Refused, Sequence', SetOf', Shape}
use Rattle.pkix_shapes.specs.declared.shape.ShapeTag.{ShapeTag}
use Rattle.pkix_shapes.specs.declared.shape.ShapeTag.TheVariants.{Context, Universal}

-- The name of the type that has this universal tag (X.680 8.4), empty where there is none.
unfoldable pub universal_name : ℕ → List ℕ
universal_name number =
    cond (number == 1) (codes "BOOLEAN")
    (cond (number == 2) (codes "INTEGER")
    (cond (number == 3) (codes "BIT STRING")
    (cond (number == 4) (codes "OCTET STRING")
    (cond (number == 5) (codes "NULL")
    (cond (number == 6) (codes "OBJECT IDENTIFIER")
    (cond (number == 10) (codes "ENUMERATED")
    (cond (number == 12) (codes "UTF8String")
    (cond (number == 16) (codes "SEQUENCE")
    (cond (number == 17) (codes "SET")
    (cond (number == 18) (codes "NumericString")
    (cond (number == 19) (codes "PrintableString")
    (cond (number == 20) (codes "TeletexString")
    (cond (number == 22) (codes "IA5String")
    (cond (number == 23) (codes "UTCTime")
    (cond (number == 24) (codes "GeneralizedTime")
    (cond (number == 26) (codes "VisibleString")
    (cond (number == 28) (codes "UniversalString")
    (cond (number == 30) (codes "BMPString") []))))))))))))))))))

-- a number after a bracket and what is in it
abbrev pub bracketed : List ℕ → ℕ → List ℕ
bracketed before number = before ++ decimal number ++ codes "]"

unfoldable pub universal_said : ℕ → List ℕ
universal_said number =
    cond (length (universal_name number) == 0) (bracketed (codes "[UNIVERSAL ") number) (universal_name number)

-- A tag by its class and number: the name of its type where it is universal and has one, else class and number in
-- brackets.
abbrev pub tag_by : ℕ → ℕ → List ℕ
tag_by class number =
    cond (class == 0) (universal_said number)
    (cond (class == 1) (bracketed (codes "[APPLICATION ") number)
    (cond (class == 2) (bracketed (codes "[") number) (bracketed (codes "[PRIVATE ") number)))

abbrev pub tag_said : Tag → List ℕ
tag_said tag = tag_by tag.class tag.number

unfoldable pub shape_tag_said : ShapeTag → List ℕ
shape_tag_said (Universal number) = universal_said number
shape_tag_said (Context number) = bracketed (codes "[") number

-- a type by the tags that its values may have; one that depends on an earlier field, as it mostly is
abbrev pub shape_said : Shape → List ℕ
shape_said (Leaf tag contents) = shape_tag_said tag
shape_said Open = codes "any type"
shape_said (ListOf' tag least p shape) = shape_tag_said tag
shape_said (SetOf' tag least p shape) = shape_tag_said tag
shape_said (Sequence' tag p fields) = shape_tag_said tag
shape_said (Containing' tag p shape) = shape_tag_said tag
shape_said (Refused tag) = shape_tag_said tag
shape_said (DefinedBy' path identifiers p first q second) = shape_said second
shape_said (Choice' p first q second) = shape_said first ++ codes " or " ++ shape_said second
shape_said (Named' name p shape) = shape_said shape
shape_said (Private' p shape) = shape_said shape

-- a field: its name and its type; what is under an explicit tag has no name
abbrev pub field_said : List ℕ → Shape → List ℕ
field_said name shape = cond (length name == 0) (shape_said shape) (name ++ codes " (" ++ shape_said shape ++ codes ")")

-- the fields one of which may come first
abbrev pub fields_said : Fields → List ℕ
fields_said End = codes "nothing more"
fields_said (Required' name p shape q fields) = field_said name.now shape
fields_said (Optional' name p shape q fields) = field_said name.now shape ++ codes " or " ++ fields_said fields
fields_said (Default' name contents p shape q fields) = field_said name.now shape ++ codes " or " ++ fields_said fields
