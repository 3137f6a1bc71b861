-- What clauses see of a SET OF with at least one member.
use Rattle.asn_lists.specs.declared.set_of.SetOf.{SetOf}
use Rattle.asn_elements.specs.declared.der_text.DerText.{Ghosts}
use Rattle.pkix_values.specs.declared.set_of_some.SetOfSome.{SetOfSome}

abbrev pub some_items : {A : Type 0} {t : Ghosts A} → SetOfSome A t → SetOf A t
some_items some = some.items
