-- What clauses see of containers.
use Rattle.std.specs.Prelude.{List as Items}
use Rattle.asn_elements.specs.declared.der_text.DerText.{Ghosts}
use Rattle.asn_lists.specs.declared.list.List.{List}
use Rattle.asn_lists.specs.declared.set_of.SetOf.{SetOf}

-- the members of a list, in order
abbrev pub list_items : {A : Type 0} {t : Ghosts A} → List A t → Items A
list_items list = list.row.items.items

-- the members of a SET OF, in the order of their texts
abbrev pub set_items : {A : Type 0} {t : Ghosts A} → SetOf A t → Items A
set_items set = set.row.items.items
