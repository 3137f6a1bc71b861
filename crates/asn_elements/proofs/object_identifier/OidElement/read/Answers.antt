use Rattle.std.proofs.Common.{subst, sym}
use Rattle.x690.specs.Contents.{ObjectIdentifier}
use Rattle.x690.specs.Layouts.{universal}
use Rattle.x690.specs.Reads.{Said}
use Rattle.x690.specs.TypeTerms.{LeafType}
use Rattle.x690.specs.Values.{Leaf, Same, Value}
use Rattle.ber_pull.specs.View.{Answers, standing}
use Rattle.asn_elements.specs.Reading.{read_given}
use Rattle.asn_elements.proofs.ObjectIdentifierContents.{identifier_from}
use Rattle.asn_elements.proofs.object_identifier.OidElement.read.Goals as goal

pub from_checked-requires : goal.from_checked-requires
from_checked-requires g c = identifier_from c.in_ok-contents.contents.items c.in_ok-contents.ensures.contents

pub returns-clause-reads : goal.returns-clause-reads
returns-clause-reads g c = λ given fine is.
    let old = c.args.pull.now in
    let new = c.read_leaf_as.new.pull in
    subst (λ oid. (v : Value) × Same v (Leaf (universal 6) oid)
    × Answers old new (read_given (LeafType (universal 6) ObjectIdentifier) (standing old) given) (Said v))
    (sym c.from_checked.ensures)
    (subst (λ own. (v : Value) × Same v (Leaf own c.in_ok-contents.contents.items)
    × Answers old new (read_given (LeafType own ObjectIdentifier) (standing old) given) (Said v))
    c.universal_tag.ensures (c.in_ok-contents.ensures.reads given fine is))
