-- What the laws on the trees and values of a type say.
use Rattle.std.specs.Prelude.{List, [], length, ℕ, ◌<◌, ◌≡◌}
use Rattle.tlv_core.specs.Limits.{Limits}
use Rattle.x690.specs.DerTexts.{der}
use Rattle.x690.specs.Fitting.{Fits, Spells}
use Rattle.x690.specs.Layouts.{RawTree}
use Rattle.x690.specs.Premises.{Lawful}
use Rattle.x690.specs.StringTypes.{string_types}
use Rattle.x690.specs.TypeTerms.{Distinct, TypeTerm}
use Rattle.x690.specs.Values.{Same, Value}

abbrev pub OneValue : Type 0
OneValue =
    (depth : ℕ) (type : TypeTerm) (earlier : List Value) (tree : RawTree) (v w : Value) → Fits depth type earlier tree v
    → Fits depth type earlier tree w → Same v w

abbrev pub TextSpells : Type 0
TextSpells =
    (limits : Limits) (type : TypeTerm) (value : Value) (octets : List ℕ) → Distinct type
    → limits.octets < 18446744073709551616 → Spells limits type value octets → Spells limits type value (der value)

-- The limits may differ.
abbrev pub OneText : Type 0
OneText =
    (limits limits' : Limits) (type : TypeTerm) (v w : Value) (octets octets' : List ℕ) → Distinct type
    → limits.octets < 2147483648
    → Spells limits type v octets → Spells limits' type w octets' → der v ≡ der w → Same v w

-- Nor does it hang on limits: of the text alone it is asked that its lengths can be spelled.
abbrev pub OneTextOfTrees : Type 0
OneTextOfTrees =
    (depth depth' : ℕ) (type : TypeTerm) (tree tree' : RawTree) (value other : Value) → Distinct type
    → length (der value) < 18446744073709551616
    → Fits depth type [] tree value → Fits depth' type [] tree' other → der value ≡ der other → Same value other

-- The type of all character strings and times is as the laws ask.
abbrev pub StringsAreLawful : Type 0
StringsAreLawful = Lawful string_types
