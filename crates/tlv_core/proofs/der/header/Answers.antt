use Rattle.std.proofs.Common.{◌++◌, length, ap, ◌∙◌, arith}
use Rattle.tlv_core.specs.Header.{der_header}
use Rattle.tlv_core.specs.Length.{shortest_length}
use Rattle.std.proofs.lemmas.List.{length-append}
use Rattle.tlv_core.proofs.Headers.{shortest_short}
use Rattle.tlv_core.proofs.der.header.Goals as goal

pub returns-clause-octets : goal.returns-clause-octets
unfolding der_header
returns-clause-octets c =
    c.push_length.ensures ∙ ap (λ s. s ++ shortest_length c.args.content) c.push_identifier.ensures.octets

pub returns-clause-short : goal.returns-clause-short
returns-clause-short c =
    omega (
      arith,
      ap length c.push_length.ensures,
      length-append c.push_identifier.new.self (shortest_length c.args.content),
      shortest_short c.args.content c.ranges.content.fits,
    )
