-- What laws ask of a type: that its rules go by values alone, and by no order of a SET OF; that they never give the two
-- reasons that are not theirs.
use Rattle.std.specs.Prelude.{List, Some, ◌≡◌}
use Rattle.tlv_core.specs.declared.reason.Reason.{Reason}
use Rattle.tlv_core.specs.declared.reason.Reason.TheVariants.{Inner, Truncated}
use Rattle.x690.specs.Lists.{Each}
use Rattle.x690.specs.TypeTerms.{ChoiceType, ContainingType, Default, DefinedByType, Distinct, EndOfFields, Fields, LeafType, OpenType, Optional, RefusedType, Required, Rule, RuledType, SequenceOfType, SequenceType, SetOfType, TypeTerm}
use Rattle.x690.specs.Values.{Same, Value}

-- The rule says the same of values that are the same.
abbrev pub FairRule : Rule → Type 0
FairRule rule =
    (earlier earlier' : List Value) (value value' : Value) → Each Same earlier earlier' → Same value value'
    → rule earlier value ≡ rule earlier' value'

unfoldable mutual
  -- Each rule of the type is fair.
  pub Fair : TypeTerm → Type 0
  Fair (LeafType tag kind) = Unit {0}
  Fair OpenType = Unit {0}
  Fair (SequenceOfType tag least type) = Fair type
  Fair (SetOfType tag least type) = Fair type
  Fair (SequenceType tag fields) = FairFields fields
  Fair (ContainingType tag rule type) = FairRule rule × Fair type
  Fair (RuledType rule type) = FairRule rule × Fair type
  Fair (RefusedType tag why) = Unit {0}
  Fair (DefinedByType path octets first second) = Fair first × Fair second
  Fair (ChoiceType first second) = Fair first × Fair second

  pub FairFields : Fields → Type 0
  FairFields EndOfFields = Unit {0}
  FairFields (Required type fields) = Fair type × FairFields fields
  FairFields (Optional type fields) = Fair type × FairFields fields
  FairFields (Default tag octets type fields) = Fair type × FairFields fields

-- A reason that a rule may give: not that the octets end, nor that a contained element has a fault.
abbrev pub HonestReason : Reason → Type 0
HonestReason why = (why ≡ Truncated → ⊥) × (why ≡ Inner → ⊥)

abbrev pub HonestRule : Rule → Type 0
HonestRule rule =
    (earlier : List Value) (value : Value) (why : Reason) → rule earlier value ≡ Some why → HonestReason why

unfoldable mutual
  -- Each rule of the type is honest.
  pub Honest : TypeTerm → Type 0
  Honest (LeafType tag kind) = Unit {0}
  Honest OpenType = Unit {0}
  Honest (SequenceOfType tag least type) = Honest type
  Honest (SetOfType tag least type) = Honest type
  Honest (SequenceType tag fields) = HonestFields fields
  Honest (ContainingType tag rule type) = HonestRule rule × Honest type
  Honest (RuledType rule type) = HonestRule rule × Honest type
  Honest (RefusedType tag why) = HonestReason why
  Honest (DefinedByType path octets first second) = Honest first × Honest second
  Honest (ChoiceType first second) = Honest first × Honest second

  pub HonestFields : Fields → Type 0
  HonestFields EndOfFields = Unit {0}
  HonestFields (Required type fields) = Honest type × HonestFields fields
  HonestFields (Optional type fields) = Honest type × HonestFields fields
  HonestFields (Default tag octets type fields) = Honest type × HonestFields fields

-- All that laws ask of a type.
pub record Lawful (type : TypeTerm) : Type 0 where
  pub fair : Fair type
  pub honest : Honest type
  pub distinct : Distinct type
