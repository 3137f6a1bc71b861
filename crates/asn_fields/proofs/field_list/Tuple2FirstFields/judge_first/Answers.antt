use Rattle.std.proofs.Common.{◌++◌, []}
use Rattle.asn_fields.proofs.FieldsInDer.{both_stand}
use Rattle.asn_fields.proofs.field_list.Tuple2FirstFields.judge_first.Goals as goal

pub returns : goal.returns
returns g c =
    let first = c.in_ok-behind.ensures in
    let others = c.in_ok-rest.ensures in (
      first.0 ++ others.0,
      both_stand c.args.limits.depth c.args.left g.A.FieldsText.listing.types g.B.FieldsText.listing.types [] first.0
          others.0 c.args.octets.now c.in_ok-behind.behind.now c.in_ok-rest.rest.now first.1 (others.1 first.0),
    )
