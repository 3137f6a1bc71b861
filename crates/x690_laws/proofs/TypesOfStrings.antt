-- The types of character strings and times meet what laws ask of a type.
use Rattle.std.proofs.Common.{List, [], map, ℕ, ◌∷◌}
use Rattle.tlv_core.specs.Identifier.{Tag}
use Rattle.x690.specs.Contents.{LeafKind, OctetString, Utf8String}
use Rattle.x690.specs.Layouts.{universal}
use Rattle.x690.specs.Premises.{Fair, Honest, Lawful}
use Rattle.x690.specs.StringTypes.{carried_numbers, carried_string, string_types}
use Rattle.x690.specs.TypeTerms.{Distinct, LeafType, choice_of}
use Rattle.x690_laws.specs.TypeLaws.{StringsAreLawful}

leaf_or : (own : Tag) (kind : LeafKind) (others : List ℕ)
    → Lawful (choice_of (LeafType own kind) (map carried_string others))
unfolding Fair Honest Distinct
leaf_or own kind [] = record { fair = tt; honest = tt; distinct = tt }
leaf_or own kind (number ∷ others) =
    let more = leaf_or (universal number) OctetString others in
    record { fair = (tt, more.fair); honest = (tt, more.honest); distinct = (tt, more.distinct) }

pub strings_are_lawful : StringsAreLawful
unfolding string_types
strings_are_lawful = leaf_or (universal 12) Utf8String carried_numbers
