use Rattle.std.proofs.Common.{rules}
use Rattle.x690_laws.proofs.LengthsOfTexts.{der_leaf}
use Rattle.asn_elements.proofs.Putting.{contents_room, framed_put, framed_stop, header_room}
use Rattle.asn_elements.proofs.leaf.put_leaf.Goals as goal

pub put_header-requires : goal.put_header-requires
put_header-requires g c = header_room _ _ _ (der_leaf c.args.tag c.args.contents.now) c.args.sink.now _ c.requires

pub returns-in_err-put_header : goal.returns-in_err-put_header
returns-in_err-put_header g c =
    framed_stop _ _ _
    (der_leaf c.args.tag c.args.contents.now)
    c.args.sink.now c.put_header.new.sink c.from_residual.result c.in_err-put_header.field-0.0
    (search rules) c.in_err-put_header.ensures

pub put-requires : goal.put-requires
put-requires g c =
    contents_room _ _ _
    (der_leaf c.args.tag c.args.contents.now)
    c.args.sink.now c.put_header.new.sink _ c.requires c.in_ok-put_header.ensures

pub returns : goal.returns
returns g c =
    framed_put _ _ _
    (der_leaf c.args.tag c.args.contents.now)
    c.args.sink.now c.put_header.new.sink c.put.new.self c.put.result c.in_ok-put_header.ensures c.put.ensures
