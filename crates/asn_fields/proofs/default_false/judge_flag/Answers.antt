use Rattle.std.proofs.Common.{◌∷◌, [], rules}
use Rattle.x690.specs.Contents.{Boolean}
use Rattle.x690.specs.Layouts.{universal}
use Rattle.x690.specs.TypeTerms.{LeafType}
use Rattle.asn_fields.proofs.FieldsInDer.{default_absent, default_there}
use Rattle.asn_fields.proofs.default_false.judge_flag.Goals as goal

pub returns-then-not-branch : goal.returns-then-not-branch
returns-then-not-branch c = λ limit left.
    default_absent limit left (universal 1) (0 ∷ []) (LeafType (universal 1) Boolean) c.args.octets.now
    (c.in_ok-begins_as_boolean.ensures (search rules))

pub returns : goal.returns
returns c = λ limit left. default_there limit left c.args.octets.now c.in_ok-rest.rest.now c.in_ok-rest.ensures
