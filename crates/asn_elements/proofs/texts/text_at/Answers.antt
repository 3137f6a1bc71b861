use Rattle.std.proofs.Common.{inl, inr}
use Rattle.asn_elements.proofs.CutTexts.{EndsAt, stands_between}
use Rattle.asn_elements.proofs.texts.text_at.Goals as goal
use Rattle.asn_elements.proofs.texts.text_at.Goals.{then-i-starts, else-i-starts}

pub slice_bounds-result-count : goal.slice_bounds-result-count
slice_bounds-result-count c =
    let e : EndsAt c.args.octets.now c.args.starts.now c.args.i c.if-i-starts.end = elim c.if-i-starts.branch [
      | then-i-starts w ↦ inl (w.if-i-starts.true, w.end-is)
      | else-i-starts w ↦ inr (w.if-i-starts.false, w.end-is)
    ] in
    (stands_between c.requires.stand.0 c.args.octets.now c.args.starts.now c.args.i c.if-i-starts.end c.requires.stand.1
    c.requires.inside e).rises

pub slice_bounds-result-start : goal.slice_bounds-result-start
slice_bounds-result-start c = slice_bounds-result-count c

pub slice_bounds-result-end : goal.slice_bounds-result-end
slice_bounds-result-end c =
    let e : EndsAt c.args.octets.now c.args.starts.now c.args.i c.if-i-starts.end = elim c.if-i-starts.branch [
      | then-i-starts w ↦ inl (w.if-i-starts.true, w.end-is)
      | else-i-starts w ↦ inr (w.if-i-starts.false, w.end-is)
    ] in
    (stands_between c.requires.stand.0 c.args.octets.now c.args.starts.now c.args.i c.if-i-starts.end c.requires.stand.1
    c.requires.inside e).within

pub returns : goal.returns
returns c = λ values stands.
    let e : EndsAt c.args.octets.now c.args.starts.now c.args.i c.if-i-starts.end = elim c.if-i-starts.branch [
      | then-i-starts w ↦ inl (w.if-i-starts.true, w.end-is)
      | else-i-starts w ↦ inr (w.if-i-starts.false, w.end-is)
    ] in
    (stands_between values c.args.octets.now c.args.starts.now c.args.i c.if-i-starts.end stands c.requires.inside
    e).text
