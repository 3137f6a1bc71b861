use Rattle.std.proofs.Common.{◌≡◌, ◌<◌, length, subst, sym, true}
use Rattle.x690.specs.ReadContents as reading
use Rattle.asn_elements.specs.BitStrings.{IsDerBits}
use Rattle.asn_elements.specs.Reading.{HasContents, kind_of}
use Rattle.asn_elements.proofs.BitReadings.{der_bits_alone}
use Rattle.asn_elements.proofs.leaf_reading.make_der.Goals as goal

pub returns-in-BitString-clause-contents : goal.returns-in-BitString-clause-contents
returns-in-BitString-clause-contents c =
    let contents = c.args.contents.now.items in
    let fit = subst (λ k. reading.is_contents (kind_of k) contents ≡ true) c.in-BitString.is c.requires.fit in
    subst (λ k. HasContents k c.clear_bits.new.contents.items) (sym c.in-BitString.is)
    (subst (λ o. (0 < length o) × IsDerBits o) (sym c.clear_bits.ensures) (der_bits_alone contents fit))
