use Rattle.std.proofs.Common.{rules, arith, add-one, get_or, ◌≡◌, ◌∙◌, ◌∷◌, ◌+◌, ◌-◌, ◌<◌, slice_get, sym, ap, length, map, true, vec_len}
use Rattle.std.proofs.lemmas.List.{length-map}
use Rattle.tlv_core.specs.Header.{der_header}
use Rattle.x690.specs.DerTexts.{der, texts_of}
use Rattle.asn_elements.proofs.HeaderOctets.{get_framed, get_header}
use Rattle.asn_elements.proofs.MappedMembers.{nth_value}
use Rattle.asn_elements.proofs.MemberTexts.{get_found, starts_length}
use Rattle.asn_lists.proofs.LaterStarts.{start_before, starts_whole}
use Rattle.asn_lists.proofs.row.Row.octet.Goals as goal
use Rattle.asn_lists.proofs.row.Row.octet.Goals.{then-k-eq0, else-k-eq0}

pub returns-in-InHeader : goal.returns-in-InHeader
returns-in-InHeader g c =
    let ts = texts_of (map g.T.DerText.value c.args.self.now.items.items) in
    let e = ap (λ n. der_header c.args.tag true n) c.args.self.now.counted in
    sym (get_header (der_header c.args.tag true (length ts)) ts c.args.i c.in-InHeader.octet
    (rw (← e) c.in-InHeader.ensures))

pub index-requires : goal.index-requires
index-requires g c =
    let w = c.find-k.ensures.within in
    let vs = map g.T.DerText.value c.args.self.now.items.items in
    let n = c.args.self.now.counted in
    let h = c.if-at-self.false in
    let e = ap length (starts_whole vs _ (c.deref-starts.ensures.value ∙ c.args.self.now.begins) (omega arith)) in
    let l = starts_length 0 vs in
    let m = length-map c.args.self.now.items.items g.T.DerText.value in
    let v : vec_len c.args.self.now.items ≡ length c.args.self.now.items.items = search rules in
    omega arith

pub returns-after-k-eq0 : goal.returns-after-k-eq0
returns-after-k-eq0 g c =
    let f = g.T.DerText.value in
    let xs = c.args.self.now.items.items in
    let ts = texts_of (map f xs) in
    let n = c.args.self.now.counted in
    let h = c.if-at-self.false in
    let ss = 0 ∷ c.deref-starts.result.now in
    let s = starts_whole (map f xs) _ (c.deref-starts.ensures.value ∙ c.args.self.now.begins) (omega arith) in
    let k = c.find-k.result in
    let w = c.find-k.ensures.within in
    let e = ap length s in
    let l = starts_length 0 (map f xs) in
    let m = length-map xs f in
    let i = c.in-InContents.ensures in
    let q = ap (λ n. length (der_header c.args.tag true n)) n in
    let inside : k < length xs = omega arith in
    let start : c.if-k-eq0.start ≡ get_or ss k 0 =
    elim c.if-k-eq0.branch [
      | then-k-eq0 w ↦ w.start-is ∙ ap (λ j. get_or ss j 0) (sym w.if-k-eq0.true)
      | else-k-eq0 w ↦ w.start-is ∙ start_before c.deref-starts.result.now k w.if-k-eq0.false
    ] in
    let next : get_or ss (k + 1) 0 ≡ get_or c.deref-starts.result.now k 0 = ap (λ j. get_or ss j 0) (add-one k) in
    c.octet.ensures
    ∙ ap (λ n. slice_get (der (f c.index.result.now)) (c.in-InContents.at - n)) start
    ∙ sym (get_framed (der_header c.args.tag true (length ts)) ts c.args.i c.in-InContents.at (omega arith)
    ∙ get_found (map f xs) ss k c.in-InContents.at (f c.index.result.now) s (omega arith)
    (nth_value f xs k c.index.result.now inside (search rules)) c.find-k.ensures.before
    (λ more. (let after = c.find-k.ensures.after (omega (arith, more)) in omega (arith, after, next)))
    (omega arith))
