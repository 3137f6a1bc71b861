use Rattle.std.proofs.Common.{◌≡◌, subst, sym}
use Rattle.x690.specs.ReadContents as reading
use Rattle.asn_elements.specs.Reading.{kind_of}
use Rattle.asn_elements.proofs.ObjectIdentifierContents.{identifier_from, identifier_on}
use Rattle.asn_elements.proofs.ReaderAnswers.{both_ways}
use Rattle.asn_elements.proofs.leaf_reading.is_contents.Goals as goal

pub returns-in-ObjectIdentifier : goal.returns-in-ObjectIdentifier
returns-in-ObjectIdentifier c =
    let o = c.args.contents.now in
    let judged = c.is_object_identifier in
    subst (λ k. judged.result ≡ reading.is_contents (kind_of k) o) (sym c.in-ObjectIdentifier.is)
    (both_ways judged.result (reading.is_object_identifier o) (λ h. identifier_on o (judged.ensures.0 h))
    (λ h. judged.ensures.1 (identifier_from o h)))
