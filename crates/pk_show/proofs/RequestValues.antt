-- The values of an attribute of a request, by its readers.
use Rattle.std.proofs.Common.{◌≡◌, ℕ, Bool, true, false, not, List, Some, ◌++◌, ap, sym, ◌∙◌, flat_map, length, map}
use Rattle.std.proofs.lemmas.Bool.{false≢true}
use Rattle.std.specs.Option.{option_map}
use Rattle.std.proofs.lemmas.List.{length-map}
use Rattle.std.proofs.lemmas.Option.{none-some, same_Some}
use Rattle.asn_lists.specs.Containers.{list_items, set_items}
use Rattle.asn_lists.specs.declared.list.List.{List as SequenceOf}
use Rattle.asn_lists.specs.declared.set_of.SetOf.{SetOf}
use Rattle.asn_elements.specs.declared.der_text.DerText.{Ghosts}
use Rattle.asn_fields.specs.declared.either.Either.{Either}
use Rattle.asn_fields.specs.declared.either.Either.TheVariants.{First, Second}
use Rattle.asn_open_values.specs.declared.any.Any.{Any}
use Rattle.pkix_values.specs.Eithers.{first_of, second_of}
use Rattle.pkix_values.specs.SetsOfSome.{some_items}
use Rattle.pkix_values.specs.Extensions.{Extension}
use Rattle.pkix_values.specs.declared.set_of_some.SetOfSome.{SetOfSome}
use Rattle.pk_show.specs.Parts.{values_in}
use Rattle.pk_show.specs.Shown.{attribute_line, extensions_lines, value_line, values_lines}

pub lists_shown : {t : Ghosts Extension} {u : Ghosts (SequenceOf Extension t)} {v : Ghosts Any} (id : List ℕ)
    (field : Either (SetOfSome (SequenceOf Extension t) u) (SetOfSome Any v)) (lists : SetOf (SequenceOf Extension t) u)
    → Some lists ≡ option_map some_items (first_of field)
    → attribute_line id (length (set_items lists)) ++ flat_map extensions_lines (map list_items (set_items lists))
    ≡ values_lines id (values_in field)
unfolding values_lines
lists_shown id (First some) lists e =
    ap (λ set. attribute_line id (length (set_items set)) ++ flat_map extensions_lines (map list_items (set_items set)))
    (same_Some lists (some_items some) e)
    ∙ ap (λ n. attribute_line id n ++ flat_map extensions_lines (map list_items (set_items (some_items some))))
    (sym (length-map (set_items (some_items some)) list_items))
lists_shown id (Second some) lists e = absurd (none-some lists (sym e))

pub plain_shown : {t : Ghosts Extension} {u : Ghosts (SequenceOf Extension t)} {v : Ghosts Any} (id : List ℕ)
    (field : Either (SetOfSome (SequenceOf Extension t) u) (SetOfSome Any v)) (values : SetOf Any v)
    → Some values ≡ option_map some_items (second_of field)
    → attribute_line id (length (set_items values)) ++ flat_map value_line (set_items values)
    ≡ values_lines id (values_in field)
unfolding values_lines
plain_shown id (First some) values e = absurd (none-some values (sym e))
plain_shown id (Second some) values e =
    ap (λ set. attribute_line id (length (set_items set)) ++ flat_map value_line (set_items set))
    (same_Some values (some_items some) e)

-- one of two that the type tells apart is there
pub neither : (b : Bool) → false ≡ b → false ≡ not b → ⊥
neither true e f = false≢true e
neither false e f = false≢true f
