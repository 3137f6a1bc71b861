-- The types of what extensions contain, by their identifiers.
use Rattle.std.specs.Prelude.{List, Option, ℕ}
use Rattle.std.specs.Option.{option_or}
use Rattle.x690.specs.TypeTerms.{TypeTerm}
use Rattle.pkix_definitions.specs.ExtensionTypes.{certificate_extensions, other_extensions}
use Rattle.pkix_definitions.specs.Identifiers.{entry_under}

-- the type of what a known extension contains
abbrev pub type_of_extension : List ℕ → Option TypeTerm
type_of_extension identifier =
    option_or (entry_under certificate_extensions identifier) (entry_under other_extensions identifier)
