use Rattle.std.proofs.Common.{refl, sym, ◌∙◌}
use Rattle.explain.proofs.notes.tls.remark_on_server_number.Goals as goal

pub returns-then-is_field-2 : goal.returns-then-is_field-2
returns-then-is_field-2 c =
    let not_modulus = sym c.is_field.ensures ∙ c.if-is_field.false in
    let exponent = sym c.is_field-2.ensures ∙ c.if-is_field-2.true in
    rw (not_modulus, exponent) c.remark_on_server_exponent.ensures

pub returns : goal.returns
returns c =
    let not_modulus = sym c.is_field.ensures ∙ c.if-is_field.false in
    let not_exponent = sym c.is_field-2.ensures ∙ c.if-is_field-2.false in
    rw (not_modulus, not_exponent) refl
