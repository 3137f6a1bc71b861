-- What is shown of keys and requests, where it isn't a field as its reader shows it.
use Rattle.std.specs.Prelude.{List, map, ℕ}
use Rattle.x690.specs.DerTexts.{der}
use Rattle.asn_elements.specs.declared.der_text.DerText.{Ghosts}
use Rattle.asn_lists.specs.Containers.{list_items, set_items}
use Rattle.asn_lists.specs.declared.list.List.{List as SequenceOf}
use Rattle.asn_fields.specs.declared.either.Either.{Either}
use Rattle.asn_fields.specs.declared.either.Either.TheVariants.{First, Second}
use Rattle.asn_open_values.specs.declared.any.Any.{Any}
use Rattle.pkix_values.specs.Names.{rdns_of}
use Rattle.pkix_values.specs.SetsOfSome.{some_items}
use Rattle.pkix_values.specs.Extensions.{Extension}
use Rattle.pkix_values.specs.declared.name.Name.{Name}
use Rattle.pkix_values.specs.Names.{NameItem}
use Rattle.pkix_values.specs.declared.set_of_some.SetOfSome.{SetOfSome}
use Rattle.private_keys.specs.RsaParts.{RsaPrivateKey, rsa_value_of}

-- the values of an attribute of a request, in the order of their texts, by their members
abbrev pub values_in : {t : Ghosts Extension} {u : Ghosts (SequenceOf Extension t)} {v : Ghosts Any}
    → Either (SetOfSome (SequenceOf Extension t) u) (SetOfSome Any v) → Either (List (List Extension)) (List Any)
values_in (First lists) = First (map list_items (set_items (some_items lists)))
values_in (Second values) = Second (set_items (some_items values))

-- the items of an RDN, in the order of their texts
abbrev pub rdn_items : {t : Ghosts NameItem} → SetOfSome NameItem t → List NameItem
rdn_items it = set_items (some_items it)

-- the items of each RDN of a Name
abbrev pub name_items : Name → List (List NameItem)
name_items it = map rdn_items (list_items (rdns_of it))

-- the DER text of an RSAPrivateKey
abbrev pub rsa_key_text : RsaPrivateKey → List ℕ
rsa_key_text it = der (rsa_value_of it)
