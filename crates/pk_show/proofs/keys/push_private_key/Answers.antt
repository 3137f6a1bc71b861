use Rattle.std.proofs.Common.{◌≡◌, ◌++◌, List, length, subst, ℕ}
use Rattle.std.specs.Prelude.{OnOk, codes, string_bytes}
use Rattle.pk_show.specs.Lines.{octets_line}
use Rattle.pk_show.specs.Shown.{private_key_lines}
use Rattle.pk_show.proofs.keys.push_private_key.Goals as goal

pub returns-in-Rsa : goal.returns-in-Rsa
unfolding private_key_lines
returns-in-Rsa c =
    let put = c.push_octets_line-in-Rsa in
    rw c.in-Rsa.is
    (subst (λ (size : ℕ).
    OnOk put.result
    (string_bytes put.new.text ≡ string_bytes c.args.text.now ++ octets_line (codes "private key: rsa, ") size))
    c.size.ensures put.ensures)

pub returns-in-Carried : goal.returns-in-Carried
unfolding private_key_lines
returns-in-Carried c =
    let put = c.push_octets_line-in-Carried in
    rw c.in-Carried.is
    (subst (λ (octets : List ℕ).
    OnOk put.result
    (string_bytes put.new.text
    ≡ string_bytes c.args.text.now ++ octets_line (codes "private key: carried, ") (length octets)))
    c.octets-in-Carried.ensures put.ensures)
