use Rattle.std.proofs.Common.{rules, ◌<◌, ◌≤◌, arith, length}
use Rattle.x690.specs.DerTexts.{der}
use Rattle.asn_documents.proofs.ReadValues.{at_most_doubled, said, stopped, too_long}
use Rattle.asn_documents.proofs.value.read_value.Goals as goal
use Rattle.asn_documents.proofs.value.read_value.Goals.{else-taken-most-via-then-taken-most+else-size-most, else-taken-most-via-else-taken-most}

pub returns-in-Err-clause-reads : goal.returns-in-Err-clause-reads
returns-in-Err-clause-reads g c =
    let x = c.in-Err.ensures.reads in
    stopped c.args.limits g.T.Element.type_term c.in-Err.error x.0 _ _ x.2 x.1

pub returns-then-size-most-clause-reads : goal.returns-then-size-most-clause-reads
returns-then-size-most-clause-reads g c =
    let l = c.args.limits in
    let x = c.in-Ok.ensures.reads in
    let long : l.octets < length (der (g.T.DerText.value c.in-Ok.read.0)) =
    omega (arith, c.if-size-most.true, c.size.ensures, c.from-most.ensures, c.octets.ensures.value) in
    too_long l g.T.Element.type_term x.0 (g.T.DerText.value c.in-Ok.read.0) _ _ _ x.1 long x.2

pub returns-clause-reads : goal.returns-clause-reads
returns-clause-reads g c =
    let l = c.args.limits in
    let x = c.in-Ok.ensures.reads in
    let v = g.T.DerText.value c.in-Ok.read.0 in
    let doubled = at_most_doubled l g.T.Element.type_term x.0 v _ _ _ x.1 (search rules) x.2 in
    let short : length (der v) ≤ l.octets = elim c.else-taken-most.branch [
      | else-taken-most-via-then-taken-most+else-size-most w ↦
          omega (arith, w.if-size-most.false, w.size.ensures, c.from-most.ensures, c.octets.ensures.value)
      | else-taken-most-via-else-taken-most w ↦
          omega (arith, w.if-taken-most.false, doubled, c.from-most.ensures, c.octets.ensures.value)
    ] in
    said l g.T.Element.type_term x.0 v _ _ _ x.1 short x.2
