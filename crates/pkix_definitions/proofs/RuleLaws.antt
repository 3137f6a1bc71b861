-- Rules that test one thing and refuse for one reason.
use Rattle.std.proofs.Common.{◌≡◌, ap₂, Bool, List, Some, false, subst, true, ℕ}
use Rattle.tlv_core.specs.declared.reason.Reason.{Reason}
use Rattle.x690.specs.Premises.{FairRule, HonestReason, HonestRule}
use Rattle.pkix_definitions.specs.Rules.{else_refused}
use Rattle.x690.specs.Values.{Value, leaf_at, leaf_contents}
use Rattle.x690_laws.proofs.ValuesOfTrees.{leaf_at_same, octets_same}

-- A test of the contents of a leaf, and of another one among the earlier fields, says the same of
-- values that are the same.
pub fair_leaves : (test : List ℕ → List ℕ → Bool) (path : List ℕ) (why : Reason)
    → FairRule (λ earlier value. else_refused (test (leaf_at path earlier) (leaf_contents value)) why)
fair_leaves test path why earlier earlier' v w es s =
    ap₂ (λ (a : List ℕ) (b : List ℕ). else_refused (test a b) why) (leaf_at_same path earlier earlier' es)
    (octets_same v w s)

tested : (b : Bool) (why given : Reason) → HonestReason why → else_refused b why ≡ Some given → HonestReason given
tested true why given h e = cc
tested false why given h e = let z : why ≡ given = cc in subst HonestReason z h

-- The reason is the rule's.
pub honest_else : (test : List Value → Value → Bool) (why : Reason) → HonestReason why
    → HonestRule (λ earlier value. else_refused (test earlier value) why)
honest_else test why h earlier value given e = tested (test earlier value) why given h e
