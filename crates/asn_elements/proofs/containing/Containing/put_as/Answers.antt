use Rattle.std.proofs.Common.{rules, ◌++◌, ◌∙◌, ap, sym, false}
use Rattle.tlv_core.specs.Header.{der_header}
use Rattle.x690.specs.DerTexts.{der}
use Rattle.x690_laws.proofs.LengthsOfTexts.{der_leaf}
use Rattle.asn_elements.proofs.Putting.{contents_room, framed_put, framed_stop, header_room}
use Rattle.asn_elements.proofs.containing.Containing.put_as.Goals as goal

pub put_header-requires : goal.put_header-requires
put_header-requires g c =
    let v = g.T.DerText.value c.args.self.now.inner in
    let t = c.args.tag in
    header_room _ (der_header t false c.size.result) (der v)
    (der_leaf t (der v) ∙ ap (λ n. der_header t false n ++ der v) (sym c.size.ensures)) c.args.sink.now _ c.requires

pub returns-in_err-put_header : goal.returns-in_err-put_header
returns-in_err-put_header g c =
    let v = g.T.DerText.value c.args.self.now.inner in
    let t = c.args.tag in
    framed_stop _ (der_header t false c.size.result) (der v)
    (der_leaf t (der v) ∙ ap (λ n. der_header t false n ++ der v) (sym c.size.ensures))
    c.args.sink.now c.put_header.new.sink c.from_residual.result c.in_err-put_header.field-0.0
    (search rules) c.in_err-put_header.ensures

pub put-requires : goal.put-requires
put-requires g c =
    let v = g.T.DerText.value c.args.self.now.inner in
    let t = c.args.tag in
    contents_room _ (der_header t false c.size.result) (der v)
    (der_leaf t (der v) ∙ ap (λ n. der_header t false n ++ der v) (sym c.size.ensures))
    c.args.sink.now c.put_header.new.sink _ c.requires c.in_ok-put_header.ensures

pub returns : goal.returns
returns g c =
    let v = g.T.DerText.value c.args.self.now.inner in
    let t = c.args.tag in
    framed_put _ (der_header t false c.size.result) (der v)
    (der_leaf t (der v) ∙ ap (λ n. der_header t false n ++ der v) (sym c.size.ensures))
    c.args.sink.now c.put_header.new.sink c.put.new.sink c.put.result c.in_ok-put_header.ensures c.put.ensures
