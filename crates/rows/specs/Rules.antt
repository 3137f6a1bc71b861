-- The rules of the types of this program.
use Rattle.std.specs.Prelude.{List, Option, [], length, ◌==◌, ◌||◌, ◌∷◌}
use Rattle.tlv_core.specs.declared.reason.Reason.{Reason}
use Rattle.tlv_core.specs.declared.reason.Reason.TheVariants.{Extra, KeyLength, LeftOut, VersionRule}
use Rattle.x690.specs.Lists.{one_of}
use Rattle.x690.specs.Premises.{FairRule, HonestReason, HonestRule}
use Rattle.pkix_definitions.specs.Rules.{else_refused}
use Rattle.x690.specs.Values.{Value, leaf_at, leaf_contents}
use Rattle.pkix_definitions.proofs.RuleLaws.{fair_leaves, honest_else}

-- there are no octets where the flag isn't TRUE
abbrev pub flag_rule : List Value → Value → Option Reason
flag_rule earlier value =
    else_refused (one_of (leaf_at (0 ∷ []) earlier) ((255 ∷ []) ∷ []) || length (leaf_contents value) == 0) Extra

pub fair_flag : FairRule flag_rule
fair_flag = fair_leaves (λ flag octets. one_of flag ((255 ∷ []) ∷ []) || length octets == 0) (0 ∷ []) Extra

pub honest_flag : HonestRule flag_rule
honest_flag = honest_else
    (λ earlier value. one_of (leaf_at (0 ∷ []) earlier) ((255 ∷ []) ∷ []) || length (leaf_contents value) == 0) Extra
    (λ z. cc, λ z. cc)

-- there are as many octets as the number that stands first has
abbrev pub length_rule : List Value → Value → Option Reason
length_rule earlier value = else_refused (length (leaf_at (0 ∷ []) earlier) == length (leaf_contents value)) KeyLength

pub fair_length : FairRule length_rule
fair_length = fair_leaves (λ number octets. length number == length octets) (0 ∷ []) KeyLength

pub honest_length : HonestRule length_rule
honest_length =
    honest_else (λ earlier value. length (leaf_at (0 ∷ []) earlier) == length (leaf_contents value)) KeyLength
    (λ z. cc, λ z. cc)

pub honest_version : HonestReason VersionRule
honest_version = (λ z. cc, λ z. cc)

pub honest_left_out : HonestReason LeftOut
honest_left_out = (λ z. cc, λ z. cc)
