use Rattle.std.proofs.Common.{rules, ◌≡◌, ◌∙◌, ap, sym, true, false}
use Rattle.tlv_core.specs.declared.fault.ReadError.TheVariants as errors
use Rattle.x690.specs.Points.{fault}
use Rattle.x690.specs.ReadContents as reading
use Rattle.ber_pull.specs.Calls.{read_primitive}
use Rattle.ber_pull.proofs.Hearing.{hears_as, hears_done, hears_err, hears_error, hears_off, hears_on, hears_said, hears_then}
use Rattle.x690.specs.Values.{Leaf}
use Rattle.asn_elements.specs.Reading.{kind_of}
use Rattle.asn_elements.proofs.ReaderAnswers.{place_given, refused_by}
use Rattle.asn_elements.proofs.LeafReadings.{judged, leaf_is}
use Rattle.asn_elements.proofs.leaf_reading.read_primitive_leaf.Goals as goal

pub returns-in_err-primitive_into-clause-reads : goal.returns-in_err-primitive_into-clause-reads
returns-in_err-primitive_into-clause-reads g c = λ own given fine is.
    let s = c.args.pull.now.state in
    let kind = kind_of c.args.kind in
    hears_err _ _ c.from_residual.result c.in_err-primitive_into.field-0.0 _ _ _ _ (search rules)
    (hears_as _ _ _ _ _ _ _ (leaf_is kind own s given (c.requires.primitive given is))
    (hears_error (read_primitive s given) (judged kind own given.at) _ _ _ _ _
    (c.in_err-primitive_into.ensures.reads given fine is)))

pub returns-then-not-is_contents-clause-reads : goal.returns-then-not-is_contents-clause-reads
returns-then-not-is_contents-clause-reads g c = λ own given fine is.
    let s = c.args.pull.now.state in
    let kind = kind_of c.args.kind in
    let first = c.refuse.ensures.first (search rules) in
    let bad : reading.is_contents kind c.primitive_into.new.octets.items ≡ false = search rules in
    let at : c.at-at.result ≡ given.at = c.at-at.ensures.value ∙ place_given s given is in
    refused_by _ c.args.pull.now c.primitive_into.new.self c.refuse.new.self
    (fault given.at (reading.bad_contents kind)) c.refuse.result
    (first.0 ∙ ap (λ p. errors.Fault (fault p c.bad_contents.result)) at
    ∙ ap (λ w. errors.Fault (fault given.at w)) c.bad_contents.ensures.bad) first.1 c.refuse.ensures.same
    (hears_as _ _ _ _ _ _ _ (leaf_is kind own s given (c.requires.primitive given is))
    (hears_then (read_primitive s given) (judged kind own given.at) c.primitive_into.new.octets.items _ _ _ _ _ _ _
    (c.in_ok-primitive_into.ensures.reads given fine is) (hears_off _ _ _ _ _ bad)))

pub returns-clause-reads : goal.returns-clause-reads
returns-clause-reads g c = λ own given fine is.
    let s = c.args.pull.now.state in
    let kind = kind_of c.args.kind in
    let good : reading.is_contents kind c.primitive_into.new.octets.items ≡ true = search rules in
    hears_said _ _ _ _ _ _ _ (ap (Leaf own) (sym c.make_der.ensures.der))
    (hears_as _ _ _ _ _ _ _ (leaf_is kind own s given (c.requires.primitive given is))
    (hears_then (read_primitive s given) (judged kind own given.at) c.primitive_into.new.octets.items _ _ _ _ _ _ _
    (c.in_ok-primitive_into.ensures.reads given fine is) (hears_on _ _ _ _ _ _ _ _ good (hears_done _ _ _))))
