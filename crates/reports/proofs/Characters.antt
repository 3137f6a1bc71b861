-- Character strings that are UTF-8, and others.
use Rattle.std.proofs.Common.{ℕ, List, ◌≡◌, ◌∙◌, ap, codes}
use Rattle.std.specs.Str.{IsUtf8}
use Rattle.hex.specs.Hex.{encode_lower}
use Rattle.reports.specs.JsonLists.{characters_member}
use Rattle.reports.specs.JsonMembers.{text_member}
use Rattle.reports.proofs.Utf8.{if_utf8, unless_utf8}

pub as_text : (text octets : List ℕ) → text ≡ octets → IsUtf8 octets
    → text_member (codes "characters") text ≡ characters_member octets
unfolding characters_member
as_text text octets e utf8 =
    ap (text_member (codes "characters")) e ∙ if_utf8 octets _ _ utf8

pub as_digits : (digits octets : List ℕ) → digits ≡ encode_lower octets → (IsUtf8 octets → ⊥)
    → text_member (codes "hexadecimal") digits ≡ characters_member octets
unfolding characters_member
as_digits digits octets e other =
    ap (text_member (codes "hexadecimal")) e ∙ unless_utf8 octets _ _ other
