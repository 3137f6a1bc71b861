use Rattle.std.proofs.Common.{◌≡◌, ◌∙◌, ◌==◌, ◌-◌, arith, length, sym, true}
use Rattle.std.proofs.lemmas.Bool.Decides.{nat_tests}
use Rattle.std.proofs.lemmas.List.{nil_from_length}
use Rattle.asn_fields.proofs.FieldsInDer.{sequence_begins}
use Rattle.asn_fields.proofs.sequence.judge_sequence.Goals as goal

pub returns : goal.returns
returns g c =
    let behind = c.in_ok-behind.behind.now in
    let test : (length behind == 0) ≡ true = sym c.is_empty.ensures ∙ c.if-not-is_empty.false in
    let none : length behind ≡ 0 = grind (arith, nat_tests) in
    let x = c.in_ok-behind.ensures in
    sequence_begins c.args.limits.depth (c.args.left - 1) c.args.left c.args.tag g.F.FieldsText.listing.types x.0
    c.args.octets.now c.in_ok-contents.contents.now c.in_ok-contents.rest.now behind c.in_ok-contents.ensures.tag
    c.in_ok-contents.ensures.is c.in_ok-contents.ensures.small (omega (arith, c.if-left-eq0.false)) x.1
    (nil_from_length behind none)
