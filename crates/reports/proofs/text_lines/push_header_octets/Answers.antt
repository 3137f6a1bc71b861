use Rattle.std.proofs.Common.{◌++◌, ◌-◌, ◌∙◌, ap, ap₂, flat_map, length, min, string_bytes, take}
use Rattle.reports.specs.Lines.{length_octets}
use Rattle.reports.specs.Texts.{octet_after, octets_text}
use Rattle.reports.proofs.Appends.{in_words, past}
use Rattle.reports.proofs.Headers.{after_identifier, identifier_alone}
use Rattle.reports.proofs.text_lines.push_header_octets.Goals as goal

pub returns : goal.returns
returns c =
    let tag = c.args.tag in
    let constructed = c.args.constructed in
    let announced = c.args.length in
    let same = c.but_last-identifier.ensures
    ∙ ap (λ o. take (length o - 1) o) (c.octets.ensures ∙ c.header-header.ensures.octets)
    ∙ identifier_alone tag constructed in
    let count = c.min.ensures
    ∙ ap (λ n. min n 127) (c.saturating_sub-count.ensures ∙ ap (λ o. announced.header - length o) same) in
    in_words c.push_length.result _ (string_bytes c.args.text.now) _ _
    (past c.push_length.result _ _ (string_bytes c.args.text.now) _ _ c.in_ok-push_octets.ensures c.push_length.ensures)
    (ap₂ (λ o n. octets_text o ++ flat_map octet_after (length_octets n announced.contents)) same count
    ∙ after_identifier tag constructed _)
