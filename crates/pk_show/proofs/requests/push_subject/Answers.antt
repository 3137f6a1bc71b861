use Rattle.std.proofs.Common.{◌∙◌, ◌++◌, ap, append_assoc, codes, decimal, flat_map, length, map, string_bytes, sym}
use Rattle.std.proofs.lemmas.List.{length-map}
use Rattle.std.proofs.lemmas.Result.{IfOk-equal}
use Rattle.asn_lists.specs.Containers.{list_items}
use Rattle.pk_show.specs.Lines.{line}
use Rattle.pk_show.specs.Parts.{rdn_items}
use Rattle.pk_show.specs.Shown.{rdn_lines, subject_lines}
use Rattle.pk_show.proofs.requests.push_subject.Goals as goal

pub returns : goal.returns
unfolding subject_lines
returns c =
    let old = string_bytes c.args.text.now in
    let seen = list_items c.rdns-rdns.result.now in
    let parts = map rdn_items seen in
    IfOk-equal c.push_rdns.result (string_bytes c.push_rdns.new.text)
    (string_bytes c.push_number_line.new.text ++ flat_map rdn_lines parts)
    (old ++ subject_lines c.args.subject.now) c.push_rdns.ensures
    (ap (λ s. s ++ flat_map rdn_lines parts)
    (c.in_ok-push_number_line.ensures
    ∙ ap (λ n. old ++ line (codes "subject: ") (decimal n)) (c.len.ensures ∙ sym (length-map seen rdn_items)))
    ∙ append_assoc old (line (codes "subject: ") (decimal (length parts))) (flat_map rdn_lines parts)
    ∙ ap (λ list.
    old
    ++ (line (codes "subject: ") (decimal (length (map rdn_items (list_items list))))
    ++ flat_map rdn_lines (map rdn_items (list_items list)))) c.rdns-rdns.ensures)
