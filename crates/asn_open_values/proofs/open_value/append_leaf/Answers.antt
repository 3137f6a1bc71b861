use Rattle.std.proofs.Common.{rules}
use Rattle.x690.specs.Values.{Leaf}
use Rattle.asn_open_values.specs.OpenTexts.{read_given_contents}
use Rattle.x690_laws.proofs.LengthsOfTexts.{der_leaf}
use Rattle.asn_open_values.proofs.OpenReadings.{text_put}
use Rattle.asn_open_values.proofs.open_value.append_leaf.Goals as goal

pub returns-clause-reads : goal.returns-clause-reads
returns-clause-reads g c = λ given fine is.
    let v = Leaf c.args.tag c.read_contents.new.contents.items in
    text_put c.args.pull.now c.read_contents.new.pull c.append_element.new.pull
    (read_given_contents c.args.form c.args.tag c.args.pull.now.state given) v _ _ _
    (c.in_ok-read_contents.ensures.reads c.args.tag given fine is)
    (rw (der_leaf c.args.tag c.read_contents.new.contents.items) (search rules))
    c.append_element.ensures.still
    c.append_element.ensures.stops
