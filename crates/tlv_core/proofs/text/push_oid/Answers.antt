use Rattle.std.proofs.Common.{◌∙◌, ◌++◌, ap, append-nil, codes, decimal, drop, string_bytes, sym}
use Rattle.tlv_core.specs.Texts.{arcs_of, dotted, oid_text}
use Rattle.tlv_core.proofs.Arcs.{arcs_fit, behind_stops, first_arcs_text, is_first, next_arc_text, none_first}
use Rattle.tlv_core.proofs.text.push_oid.Goals as goal

pub loop-arc-init : goal.loop-arc-init
loop-arc-init c =
    let old = string_bytes c.args.text.now in
    let arcs = arcs_of c.args.id.now in
    let all = c.arcs-first.ensures.all arcs (arcs_fit c.args.id.now c.arcs-first.ensures.is) in
    let first = c.arcs-first.result.0 in
    let second = c.arcs-first.result.1 in
    let text = c.in_ok-push_arc.ensures ∙ ap (λ s. s ++ (codes "." ++ decimal second)) c.in_ok-push_number.ensures in (
      drop 2 arcs,
      all.1,
      ap (λ s. s ++ behind_stops (drop 2 arcs)) text
          ∙ first_arcs_text old (drop 2 arcs) first second
          ∙ ap (λ s. old ++ dotted s) (sym all.0),
    )

pub loop-arc-preserved : goal.loop-arc-preserved
loop-arc-preserved c =
    let before = c.loop-arc.invariant in
    let arcs = before.0 in
    let arc = c.in-Some.arc in
    let given = c.in-Some.ensures.arc arcs before.1 in
    let first = is_first arcs arc given.0 in (
      drop 1 arcs,
      given.1,
      ap (λ s. s ++ behind_stops (drop 1 arcs)) c.in_ok-push_arc-2.ensures
          ∙ next_arc_text (string_bytes c.loop-arc.text) (drop 1 arcs) arc
          ∙ ap (λ s. string_bytes c.loop-arc.text ++ behind_stops s) (sym first)
          ∙ before.2,
    )

pub returns : goal.returns
unfolding oid_text
returns c =
    let before = c.loop-arc.invariant in
    let text = string_bytes c.loop-arc.text in
    let none = none_first before.0 (c.in_default.ensures.arc before.0 before.1).0 in
    sym (append-nil text) ∙ ap (λ s. text ++ behind_stops s) (sym none) ∙ before.2
