use Rattle.std.proofs.Common.{rules}
use Rattle.x690.specs.DerTexts.{der}
use Rattle.asn_documents.proofs.Comparing.{equal_to, found_at, outcome, shorter_at}
use Rattle.asn_documents.proofs.difference.difference_from_text.Goals as goal

pub returns-then-is_some : goal.returns-then-is_some
returns-then-is_some g c =
    let n = c.write_text.new.dst in
    let s = outcome c.args.octets.now c.new-comparing.result.octets.now n.octets.now _ n.at n.other n.failed
    (der (g.T.DerText.value c.args.value.now))
    c.write_text.result c.new-comparing.ensures.with c.new-comparing.ensures.none c.write_text.ensures in
    found_at c.args.octets.now n.octets.now n.at n.other (der (g.T.DerText.value c.args.value.now)) s.1.0 s.0 n.within
    (search rules) n.differs s.1.1

pub returns-then-comparing-octets : goal.returns-then-comparing-octets
returns-then-comparing-octets g c =
    let n = c.write_text.new.dst in
    let s = outcome c.args.octets.now c.new-comparing.result.octets.now n.octets.now _ n.at n.other n.failed
    (der (g.T.DerText.value c.args.value.now))
    c.write_text.result c.new-comparing.ensures.with c.new-comparing.ensures.none c.write_text.ensures in
    shorter_at c.args.octets.now n.octets.now n.at n.other (der (g.T.DerText.value c.args.value.now)) s.1.0 n.failed s.0
    (search rules) (search rules) n.halted s.1.2 s.1.1

pub returns : goal.returns
returns g c =
    let n = c.write_text.new.dst in
    let s = outcome c.args.octets.now c.new-comparing.result.octets.now n.octets.now _ n.at n.other n.failed
    (der (g.T.DerText.value c.args.value.now))
    c.write_text.result c.new-comparing.ensures.with c.new-comparing.ensures.none c.write_text.ensures in
    equal_to c.args.octets.now n.octets.now n.at n.other
    (der (g.T.DerText.value c.args.value.now)) s.1.0 n.failed s.0 n.within (search rules)
    (search rules) n.halted s.1.2 s.1.1
