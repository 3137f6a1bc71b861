use Rattle.std.proofs.Common.{ap, codes, string_bytes, sym}
use Rattle.pk_show.specs.Shown.{ec_lines, part_lines, public_key_lines}
use Rattle.pk_show.proofs.Behind.{in_words}
use Rattle.pk_show.proofs.push_parts.Goals as goal

pub returns-in-Ec : goal.returns-in-Ec
returns-in-Ec c =
    let lines = ec_lines (codes "private key: ") (codes "curve: ") (codes "public key: ") c.in-Ec.key in
    in_words c.push_ec_key.result (string_bytes c.push_ec_key.new.text)
    (string_bytes c.args.text.now) lines (part_lines c.args.document.now) c.push_ec_key.ensures
    (ap part_lines (sym c.in-Ec.is))

pub returns-in-Public : goal.returns-in-Public
returns-in-Public c =
    let lines = public_key_lines (codes "algorithm: ") (codes "parameters: ") c.in-Public.key in
    in_words c.push_public_key.result (string_bytes c.push_public_key.new.text)
    (string_bytes c.args.text.now) lines (part_lines c.args.document.now) c.push_public_key.ensures
    (ap part_lines (sym c.in-Public.is))
