use Rattle.std.proofs.Common.{◌++◌, ap, map, subst, sym, true}
use Rattle.tlv_core.specs.Header.{der_header}
use Rattle.tlv_core.specs.Sinks.{Puts}
use Rattle.x690.specs.DerTexts.{texts_of}
use Rattle.asn_elements.specs.Framing.{framed}
use Rattle.asn_elements.proofs.Putting.{framed_put}
use Rattle.asn_lists.proofs.row.Row.put.Goals as goal

pub returns : goal.returns
returns g c =
    let f = g.T.DerText.value in
    let ts = texts_of (map f c.args.self.now.items.items) in
    let is = ap (λ n. der_header c.args.tag true n ++ ts) (sym c.args.self.now.counted) in
    framed_put (framed c.args.tag ts)
    (der_header c.args.tag true c.args.self.now.content)
    ts is c.args.sink.now c.put_header.new.sink c.put_texts.new.sink c.put_texts.result c.in_ok-put_header.ensures
    (subst (λ z. Puts (texts_of (map f z)) c.put_header.new.sink c.put_texts.new.sink c.put_texts.result)
    c.deref.ensures.value c.put_texts.ensures)
