use Rattle.std.proofs.Common.{IsTrue, rules, ◌≡◌, ◌↔◌}
use Rattle.pk_documents.specs.Encodings.{octets_of}
use Rattle.pk_documents.specs.Kinds.{type_of}
use Rattle.pkder_c.proofs.Wholes.{first_pair, same_made, second_pair}
use Rattle.pkder_c.proofs.whole.whole_same.Goals as goal

pub returns-in-Err-clause-refused : goal.returns-in-Err-clause-refused
returns-in-Err-clause-refused c =
    first_pair c.args.limits
    (type_of c.args.kind)
    c.args.first.now c.args.second.now c.in-Err.refusal c.first_refused.result c.first_refused.ensures
    c.in-Err.ensures.refused

pub returns-in-Ok-whole_text-clause-same : goal.returns-in-Ok-whole_text-clause-same
returns-in-Ok-whole_text-clause-same c =
    let texts : IsTrue c.eq.result ↔ (octets_of c.in-Ok.text ≡ octets_of c.in-Ok-whole_text.other) = search rules in
    same_made c.args.limits
    (type_of c.args.kind)
    c.args.first.now c.args.second.now (octets_of c.in-Ok.text) (octets_of c.in-Ok-whole_text.other) c.eq.result texts
    c.in-Ok.ensures.text c.in-Ok-whole_text.ensures.text

pub returns-clause-refused : goal.returns-clause-refused
returns-clause-refused c =
    second_pair c.args.limits
    (type_of c.args.kind)
    c.args.first.now c.args.second.now (octets_of c.in-Ok.text) c.in-Err-whole_text.refusal c.second_refused.result
    c.second_refused.ensures c.in-Ok.ensures.text c.in-Err-whole_text.ensures.refused
