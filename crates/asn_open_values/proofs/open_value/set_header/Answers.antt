use Rattle.std.proofs.Common.{rules, ◌∙◌, ◌+◌, ◌++◌, ap, ap₂, drop, take}
use Rattle.asn_elements.specs.Framing.{framed}
use Rattle.asn_open_values.proofs.HeaderRoom.{behind_room, cut_in_front, ok_then, short_put}
use Rattle.asn_open_values.proofs.open_value.set_header.Goals as goal

pub returns-in-Some : goal.returns-in-Some
returns-in-Some c = λ before room contents at two is.
    short_put before room contents c.args.text.now.items c.in-Some.octets c.args.start c.args.tag at two is
    (search rules) (search rules)

pub returns-in_ok-contents-in-None : goal.returns-in_ok-contents-in-None
returns-in_ok-contents-in-None c =
    let start = c.args.start in
    let kept = c.in_ok-contents-in-None.ensures in
    ok_then c.push_element.result c.push_element.ensures
    (λ put before room contents at two is.
    put
    ∙ ap₂ (λ front behind. front ++ framed c.args.tag behind)
    (c.truncate.ensures.items
    ∙ (ap (take start) kept.items ∙ cut_in_front before room contents c.args.text.now.items start at is))
    (c.deref.ensures.value
    ∙ (kept.tail ∙ (ap (drop (start + 2)) is ∙ behind_room before room contents start at two))))
