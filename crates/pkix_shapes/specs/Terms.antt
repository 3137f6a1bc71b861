-- The type term that a shape is, and a type term without its rules.
use Rattle.std.specs.Prelude.{map}
use Rattle.tlv_core.specs.Identifier.{Tag}
use Rattle.x690.specs.Contents.{LeafKind}
use Rattle.x690.specs.Contents as kinds
use Rattle.x690.specs.Layouts.{context_specific, universal}
use Rattle.x690.specs.TypeTerms as types
use Rattle.x690.specs.TypeTerms.{TypeTerm, no_rule}
use Rattle.tlv_core.specs.declared.reason.Reason.TheVariants.{VersionRule}
use Rattle.pkix_shapes.specs.declared.shape.Contents.{Contents}
use Rattle.pkix_shapes.specs.declared.shape.Contents.TheVariants as leaves
use Rattle.pkix_shapes.specs.declared.shape.ShapeTag.{ShapeTag}
use Rattle.pkix_shapes.specs.declared.shape.ShapeTag.TheVariants.{Universal, Context}
use Rattle.pkix_shapes.specs.declared.shape.Shape.{Shape, Leaf, Open, ListOf', SetOf', Sequence', Containing', Refused, DefinedBy', Choice', Named', Private'}
use Rattle.pkix_shapes.specs.declared.shape.Fields.{Default', Fields, End, Required', Optional'}

abbrev pub tag_of : ShapeTag → Tag
tag_of (Universal number) = universal number
tag_of (Context number) = context_specific number

abbrev pub kind_of : Contents → LeafKind
kind_of leaves.Boolean = kinds.Boolean
kind_of leaves.Integer = kinds.Integer
kind_of leaves.Null = kinds.Null
kind_of leaves.ObjectIdentifier = kinds.ObjectIdentifier
kind_of leaves.BitString = kinds.BitString
kind_of leaves.OctetString = kinds.OctetString
kind_of leaves.Utf8String = kinds.Utf8String
kind_of leaves.Text = kinds.OctetString

-- the tag of a leaf; no other type has a default here
abbrev pub leaf_tag : Shape → Tag
leaf_tag (Leaf tag contents) = tag_of tag
leaf_tag Open = universal 0
leaf_tag (ListOf' tag least p shape) = universal 0
leaf_tag (SetOf' tag least p shape) = universal 0
leaf_tag (Sequence' tag p fields) = universal 0
leaf_tag (Containing' tag p shape) = universal 0
leaf_tag (Refused tag) = universal 0
leaf_tag (DefinedBy' path identifiers p first q second) = universal 0
leaf_tag (Choice' p first q second) = universal 0
leaf_tag (Named' name p shape) = leaf_tag shape
leaf_tag (Private' p shape) = leaf_tag shape

abbrev mutual
  -- the type that a shape is; its names, and what is private, say nothing of it
  pub term_of : Shape → TypeTerm
  term_of (Leaf tag contents) = types.LeafType (tag_of tag) (kind_of contents)
  term_of Open = types.OpenType
  term_of (ListOf' tag least p shape) = types.SequenceOfType (tag_of tag) least (term_of shape)
  term_of (SetOf' tag least p shape) = types.SetOfType (tag_of tag) least (term_of shape)
  term_of (Sequence' tag p fields) = types.SequenceType (tag_of tag) (fields_of fields)
  term_of (Containing' tag p shape) = types.ContainingType (tag_of tag) no_rule (term_of shape)
  term_of (Refused tag) = types.RefusedType (tag_of tag) VersionRule
  term_of (DefinedBy' path identifiers p first q second) =
      types.DefinedByType path.now (map (λ r. r.now) identifiers.now) (term_of first) (term_of second)
  term_of (Choice' p first q second) = types.ChoiceType (term_of first) (term_of second)
  term_of (Named' name p shape) = term_of shape
  term_of (Private' p shape) = term_of shape

  pub fields_of : Fields → types.Fields
  fields_of End = types.EndOfFields
  fields_of (Required' name p shape q fields) = types.Required (term_of shape) (fields_of fields)
  fields_of (Optional' name p shape q fields) = types.Optional (term_of shape) (fields_of fields)
  fields_of (Default' name contents p shape q fields) =
      types.Default (leaf_tag shape) contents.now (term_of shape) (fields_of fields)

abbrev mutual
  -- the type with its rules left out, and a field with a default as an optional one: which tags stand where is the same
  pub bare : TypeTerm → TypeTerm
  bare (types.LeafType tag kind) = types.LeafType tag kind
  bare types.OpenType = types.OpenType
  bare (types.SequenceOfType tag least type) = types.SequenceOfType tag least (bare type)
  bare (types.SetOfType tag least type) = types.SetOfType tag least (bare type)
  bare (types.SequenceType tag fields) = types.SequenceType tag (bare_fields fields)
  bare (types.ContainingType tag rule type) = types.ContainingType tag no_rule (bare type)
  bare (types.RuledType rule type) = bare type
  bare (types.RefusedType tag why) = types.RefusedType tag why
  bare (types.DefinedByType path octets first second) = types.DefinedByType path octets (bare first) (bare second)
  bare (types.ChoiceType first second) = types.ChoiceType (bare first) (bare second)

  pub bare_fields : types.Fields → types.Fields
  bare_fields types.EndOfFields = types.EndOfFields
  bare_fields (types.Required type fields) = types.Required (bare type) (bare_fields fields)
  bare_fields (types.Optional type fields) = types.Optional (bare type) (bare_fields fields)
  bare_fields (types.Default tag octets type fields) = types.Optional (bare type) (bare_fields fields)
