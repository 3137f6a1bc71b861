use Rattle.std.proofs.Common.{encode_utf8, flat_map, ◌∙◌}
use Rattle.reports.specs.Letters.{by_utf8}
use Rattle.reports.proofs.Appends.{in_words, put}
use Rattle.reports.proofs.Utf8.{if_utf8, unless_utf8}
use Rattle.reports.proofs.letters.push_utf8.Goals as goal

pub returns-in-Ok : goal.returns-in-Ok
returns-in-Ok c =
    let octets = c.args.octets.now in
    let h = c.in-Ok.ensures.cases in
    in_words c.push_str.result _ _ c.in-Ok.string.now (by_utf8 octets)
    (put c.push_str.result _ _ c.in-Ok.string.now c.push_str.ensures.bytes)
    (h.0 ∙ if_utf8 octets octets (flat_map encode_utf8 octets) h.1)

pub returns-in-Err : goal.returns-in-Err
returns-in-Err c =
    let octets = c.args.octets.now in
    in_words c.push_each.result _ _ (flat_map encode_utf8 octets) (by_utf8 octets) c.push_each.ensures
    (unless_utf8 octets octets (flat_map encode_utf8 octets) c.in-Err.ensures.cases.0)
