use Rattle.asn_fields.proofs.FieldsInDer.{both_begin}
use Rattle.asn_fields.proofs.field_list.Tuple2IndependentFields.judge.Goals as goal

pub returns : goal.returns
returns g c =
    both_begin c.args.limits.depth c.args.left g.A.FieldsText.listing.types g.B.FieldsText.listing.types
    c.args.octets.now c.in_ok-behind.behind.now c.in_ok-rest.rest.now c.in_ok-behind.ensures c.in_ok-rest.ensures
