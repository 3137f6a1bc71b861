use Rattle.std.proofs.Common.{◌≡◌, ◌∙◌, true, sym, ap, rules}
use Rattle.std.proofs.lemmas.Str.{IsUtf8-from_is_utf8, is_utf8-from_IsUtf8}
use Rattle.std.specs.Str.{is_utf8}
use Rattle.x690.specs.ReadContents as reading
use Rattle.asn_elements.specs.Reading.{string_kind}
use Rattle.asn_elements.proofs.ReaderAnswers.{both_ways}
use Rattle.asn_elements.proofs.leaf_reading.is_string.Goals as goal

pub returns-else-not-utf8 : goal.returns-else-not-utf8
returns-else-not-utf8 c =
    let xs = c.args.octets.now in
    let yes : c.args.utf8 ≡ true = search rules in
    let same : c.is_text.result ≡ is_utf8 xs = both_ways c.is_text.result (is_utf8 xs)
    (λ h. is_utf8-from_IsUtf8 xs (c.is_text.ensures.0 h)) (λ h. c.is_text.ensures.1 (IsUtf8-from_is_utf8 xs h)) in
    same ∙ sym (ap (λ b. reading.is_contents (string_kind b) xs) yes)
