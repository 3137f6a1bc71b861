use Rattle.std.proofs.Common.{rules, ◌≡◌, ◌∙◌, ap, false, true}
use Rattle.tlv_core.specs.declared.fault.ReadError.TheVariants as errors
use Rattle.tlv_core.specs.declared.reason.Reason.TheVariants.{BadText}
use Rattle.x690.specs.Points.{fault}
use Rattle.x690.specs.ReadContents as reading
use Rattle.ber_pull.specs.Calls.{read_octets}
use Rattle.ber_pull.proofs.Hearing.{hears_done, hears_err, hears_error, hears_off, hears_on, hears_same, hears_then}
use Rattle.asn_elements.specs.Reading.{string_kind}
use Rattle.asn_elements.proofs.ReaderAnswers.{place_given, refused_by}
use Rattle.asn_elements.proofs.LeafReadings.{octets_leaf, string_leaf_is}
use Rattle.asn_elements.proofs.leaf_reading.read_octets_leaf.Goals as goal

pub returns-in_err-octets_into-clause-reads : goal.returns-in_err-octets_into-clause-reads
returns-in_err-octets_into-clause-reads g c = λ own given fine is.
    let s = c.args.pull.now.state in
    hears_err _ _ c.from_residual.result c.in_err-octets_into.field-0.0 _ _ _ _ (search rules)
    (hears_same _ _ _ _ _ _ _ (string_leaf_is c.args.utf8 own s given)
    (hears_error (read_octets s given) (octets_leaf (string_kind c.args.utf8) own given.at) _ _ _ _ _
    (c.in_err-octets_into.ensures.reads given fine is)))

pub returns-then-not-is_string-clause-reads : goal.returns-then-not-is_string-clause-reads
returns-then-not-is_string-clause-reads g c = λ own given fine is.
    let s = c.args.pull.now.state in
    let first = c.refuse.ensures.first (search rules) in
    let bad : reading.is_contents (string_kind c.args.utf8) c.octets_into.new.octets.items ≡ false = search rules in
    let at : c.at-at.result ≡ given.at = c.at-at.ensures.value ∙ place_given s given is in
    refused_by _ c.args.pull.now c.octets_into.new.self c.refuse.new.self (fault given.at BadText) c.refuse.result
    (first.0 ∙ ap (λ p. errors.Fault (fault p BadText)) at) first.1 c.refuse.ensures.same
    (hears_same _ _ _ _ _ _ _ (string_leaf_is c.args.utf8 own s given)
    (hears_then (read_octets s given)
    (octets_leaf (string_kind c.args.utf8) own given.at) c.octets_into.new.octets.items _ _ _ _ _ _ _
    (c.in_ok-octets_into.ensures.reads given fine is) (hears_off _ _ _ _ _ bad)))

pub returns-clause-reads : goal.returns-clause-reads
returns-clause-reads g c = λ own given fine is.
    let s = c.args.pull.now.state in
    let good : reading.is_contents (string_kind c.args.utf8) c.octets_into.new.octets.items ≡ true = search rules in
    hears_same _ _ _ _ _ _ _ (string_leaf_is c.args.utf8 own s given)
    (hears_then (read_octets s given)
    (octets_leaf (string_kind c.args.utf8) own given.at) c.octets_into.new.octets.items _ _ _ _ _ _ _
    (c.in_ok-octets_into.ensures.reads given fine is) (hears_on _ _ _ _ _ _ _ _ good (hears_done _ _ _)))
