use Rattle.std.proofs.Common.{◌≡◌, ◌∙◌, ap, cond, sym}
use Rattle.asn_elements.proofs.InDerTexts.{short_identifier}
use Rattle.asn_elements.proofs.tags.identifier_octet.Goals as goal
use Rattle.asn_elements.proofs.tags.identifier_octet.Goals.{else-constructed, then-constructed}

pub returns-clause-is : goal.returns-clause-is
returns-clause-is c =
    let form : c.if-constructed.form ≡ cond c.args.constructed 32 0 = elim c.if-constructed.branch [
      | then-constructed w ↦ w.form-is ∙ ap (λ b. cond b 32 0) (sym w.if-constructed.true)
      | else-constructed w ↦ w.form-is ∙ ap (λ b. cond b 32 0) (sym w.if-constructed.false)
    ] in
    short_identifier c.args.tag c.args.constructed c.class_number-class.result c.if-constructed.form
    c.number-number.result (c.class_number-class.ensures.bits ∙ c.class.ensures) form c.number-number.ensures
    c.if-number-ge31.false
