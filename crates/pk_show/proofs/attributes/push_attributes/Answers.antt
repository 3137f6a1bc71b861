use Rattle.std.proofs.Common.{Bor, Option, ◌∙◌, ◌++◌, ap, codes, decimal, flat_map, string_bytes, sym}
use Rattle.std.specs.Option.{option_map}
use Rattle.asn_lists.specs.Containers.{set_items}
use Rattle.asn_lists.specs.declared.set_of.SetOf.{SetOf}
use Rattle.pk_show.specs.Lines.{line}
use Rattle.pk_show.specs.Shown.{attributes_lines}
use Rattle.pk_show.proofs.Behind.{in_words, past}
use Rattle.pk_show.proofs.attributes.push_attributes.Goals as goal

pub returns : goal.returns
unfolding attributes_lines
returns g c =
    let lines = g.T.Shown.lines in
    let members = set_items c.in-Some.attributes.now in
    let old = string_bytes c.args.text.now in
    let new = string_bytes c.push_set.new.text in
    let first = line (codes "attributes: ") (decimal c.len.result) in
    in_words c.push_set.result new old (first ++ flat_map lines members) _
    (past c.push_set.result new (string_bytes c.push_number_line.new.text) old first
    (flat_map lines members) c.in_ok-push_number_line.ensures c.push_set.ensures)
    (ap (λ n. line (codes "attributes: ") (decimal n) ++ flat_map lines members) c.len.ensures
    ∙ ap (λ (o : Option (Bor (SetOf g.row.T.Denot g.T.DerText))).
    attributes_lines lines (option_map (λ set. set_items set) (option_map (λ r. r.now) o)))
    (sym c.in-Some.is))
