use Rattle.std.proofs.Common.{subst, true, ◌≡◌}
use Rattle.std.proofs.lemmas.Str.{IsUtf8-from_is_utf8}
use Rattle.x690.specs.Layouts.{same_tag, universal}
use Rattle.x690.specs.ReadContents.{is_contents}
use Rattle.asn_elements.specs.Reading.{string_kind}
use Rattle.asn_elements.proofs.text.Text.octets.Goals as goal

pub returns-clause-utf8 : goal.returns-clause-utf8
returns-clause-utf8 c = λ is.
    let octets = c.args.self.now.octets.items in
    IsUtf8-from_is_utf8 octets
    (subst (λ t. is_contents (string_kind (same_tag (universal 12) t)) octets ≡ true) is c.args.self.now.contents)
