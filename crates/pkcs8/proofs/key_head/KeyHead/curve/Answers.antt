use Rattle.std.proofs.Common.{rules, ◌∙◌, [], ap, sym}
use Rattle.pkcs8.specs.Keys.{curve_octets, identifier_of}
use Rattle.pkcs8.proofs.Curves.{curve_elsewhere, curve_here}
use Rattle.pkcs8.proofs.key_head.KeyHead.curve.Goals as goal

pub returns-then-is_ec_public_key : goal.returns-then-is_ec_public_key
returns-then-is_ec_public_key c =
    let ruled = c.args.self.now.0.1.0 in
    let fields = ruled.value.0.value.fields.0 in
    curve_here _ fields.0.0 [] fields.1.0 ruled.judged (search rules)
    ∙ ap curve_octets (sym (c.named_in.ensures ∙ ap identifier_of (search rules)))

pub returns-else-is_ec_public_key : goal.returns-else-is_ec_public_key
returns-else-is_ec_public_key c =
    let fields = c.args.self.now.0.1.0.value.0.value.fields.0 in
    curve_elsewhere _ fields.0.0 [] fields.1.0 (search rules)
